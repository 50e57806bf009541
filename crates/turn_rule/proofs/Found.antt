-- Look-ups one after another, and what is worked out from them.
use Rattle.std.proofs.Common.{◌≡◌, ℕ, ◌≤◌, ℤ, neg_ℤ, ◌⊎◌, inl, inr, Result, Ok, Err, IsTrue, arith, subst}
use Rattle.std.specs.Int.{int_max, int_min}
use Rattle.std.proofs.lemmas.Int.{ints, clamps}
use Rattle.position_rank.specs.Placement.{Placement}
use Rattle.directed_fixed.specs.declared.bounds.End.{End}
use Rattle.directed_fixed.specs.Bounds.{IsNoLooser, IsWithinUnits, other}
use Rattle.hyper_outside.specs.Causes.{Rose}
use Rattle.hyper_outside.specs.declared.outside.LookStop.{LookStop}
use Rattle.hyper_outside.specs.declared.outside.LookStop.TheVariants.{ReadFault, BadPage, NoMemory}
use Rattle.turn_rule.specs.Turn.{Words}
use Rattle.turn_rule.specs.Looks.{Source, Notes, Damage, States, MayStop, AreLater, Look, Looked}
use Rattle.turn_rule.specs.Found.{IsFound}
use Rattle.turn_rule.proofs.Tightness.{tight-neg}
use Rattle.turn_rule.proofs.Tight.{words-refl, words-trans}

rose-earlier : (a b c : ℕ) → a ≤ b → Rose b c → Rose a c
rose-earlier a b c h k = omega arith

may_stop-earlier : (s : Source) (w : Notes) (a b c : ℕ) (meant meant' : Damage → Type 0) (stop : LookStop) → a ≤ b → ((damage : Damage) → IsTrue w.told → meant damage → meant' damage) → MayStop s w b c meant stop → MayStop s w a c meant' stop
may_stop-earlier s w a b c meant meant' ReadFault h k stopped = (stopped.0, rose-earlier a b c h stopped.1)
may_stop-earlier s w a b c meant meant' (BadPage fault at) h k stopped = (stopped.0, λ told. k _ told (stopped.1 told))
may_stop-earlier s w a b c meant meant' NoMemory h k stopped = stopped

pub notes-refl : (s : Source) (u : Notes) → AreLater s u u
notes-refl s u = record { told = λ told. told; words = λ told. words-refl s.checkers s.kinds u.words }

pub notes-trans : (s : Source) (u v w : Notes) → AreLater s u v → AreLater s v w → AreLater s u w
notes-trans s u v w first second = record {
  told = λ told. first.told (second.told told);
  words = λ told. words-trans s.checkers s.kinds w.words v.words u.words (second.words told) (first.words (second.told told));
}

abbrev pub look : Source → Notes → Notes → ℕ → ℕ → Look
look source old new before now = record { source = source; before = old; after = new; faults_before = before; faults_after = now }

-- a look-up of one end, with its parts apart
abbrev pub FindsFrom : End → Source → Notes → Notes → ℕ → ℕ → (Damage → Type 0) → States → ℤ → (Words → ℤ) → Result ℤ LookStop → Type 0
FindsFrom end source old new before now meant states bound value = Looked (look source old new before now) meant (IsFound end source new states bound value)

-- a look-up, and then another
pub then-ok : {A B C : Type 0} (s : Source) (u v w : Notes) (a b c : ℕ) (meant meant' meant'' : Damage → Type 0) (right : A → Type 0) (right' : B → Type 0) (right'' : C → Type 0) (x : A) (y : B) (z : C)
    → Looked (look s u v a b) meant right (Ok x) → Looked (look s v w b c) meant' right' (Ok y) → (AreLater s v w → right x → right' y → right'' z) → Looked (look s u w a c) meant'' right'' (Ok z)
then-ok s u v w a b c meant meant' meant'' right right' right'' x y z first second both = record {
  later = omega (arith, first.later, second.later);
  notes = notes-trans s u v w first.notes second.notes;
  answer = both second.notes first.answer second.answer;
  stop = tt;
}

pub then-err : {A B C : Type 0} (s : Source) (u v w : Notes) (a b c : ℕ) (meant meant' meant'' : Damage → Type 0) (right : A → Type 0) (right' : B → Type 0) (right'' : C → Type 0) (x : A) (stop : LookStop)
    → Looked (look s u v a b) meant right (Ok x) → Looked (look s v w b c) meant' right' (Err stop) → ((damage : Damage) → IsTrue v.told → meant' damage → meant'' damage) → Looked (look s u w a c) meant'' right'' (Err stop)
then-err s u v w a b c meant meant' meant'' right right' right'' x stop first second within = record {
  later = omega (arith, first.later, second.later);
  notes = notes-trans s u v w first.notes second.notes;
  answer = tt;
  stop = may_stop-earlier s w a b c meant' meant'' stop first.later (λ damage told. within damage (second.notes.told told)) second.stop;
}

-- the answer, mover_view otherwise
pub mapped-ok : {A B : Type 0} (s : Source) (u v : Notes) (a b : ℕ) (meant meant' : Damage → Type 0) (right : A → Type 0) (right' : B → Type 0) (x : A) (y : B)
    → Looked (look s u v a b) meant right (Ok x) → (right x → right' y) → Looked (look s u v a b) meant' right' (Ok y)
mapped-ok s u v a b meant meant' right right' x y looked turned = record { later = looked.later; notes = looked.notes; answer = turned looked.answer; stop = tt }

-- some states are among others
abbrev pub AreAmong : States → States → Type 0
AreAmong some others = (p : Placement) (k : ℕ) → some p k → others p k

module _ (end : End) (s : Source) where
  pub found-later : (u v : Notes) (states : States) (bound : ℤ) (value : Words → ℤ) (x : ℤ) → AreLater s u v → IsFound end s u states bound value x → IsFound end s v states bound value x
  found-later u v states bound value x after found = record {
    within = found.within;
    floor = λ told. found.floor (after.told told);
    notes = λ told later tight. found.notes (after.told told) later (words-trans s.checkers s.kinds later v.words u.words tight (after.words told));
    right = λ told. found.right (after.told told);
  }

  -- the same values at the same states
  pub found-as : (u : Notes) (states states' : States) (bound bound' : ℤ) (value value' : Words → ℤ) (x y : ℤ) → IsWithinUnits bound' y → AreAmong states' states → ((w : Words) → value w ≡ value' w) → x ≡ y → IsFound end s u states bound value x → IsFound end s u states' bound' value' y
  found-as u states states' bound bound' value value' x y within among same is found = record {
    within = within;
    floor = λ told. subst (λ (z : ℤ). IsNoLooser end y z) (same s.floor) (subst (λ (z : ℤ). IsNoLooser end z (value s.floor)) is (found.floor told));
    notes = λ told later tight. subst (λ (z : ℤ). IsNoLooser end z y) (same later) (subst (λ (z : ℤ). IsNoLooser end (value later) z) is (found.notes told later tight));
    right = λ told p k h. found.right told p k (among p k h);
  }

  -- a step of two ends that keeps tightness
  pub found-step : (f : ℤ → ℤ → ℤ) → ((a b c d : ℤ) → IsNoLooser end a c → IsNoLooser end b d → IsNoLooser end (f a b) (f c d)) → (u : Notes) (states states' states'' : States) (bound bound' bound'' : ℤ) (value value' : Words → ℤ) (x y : ℤ)
      → IsWithinUnits bound'' (f x y) → ((p : Placement) (k : ℕ) → states'' p k → states p k ⊎ states' p k) → IsFound end s u states bound value x → IsFound end s u states' bound' value' y → IsFound end s u states'' bound'' (λ w. f (value w) (value' w)) (f x y)
  found-step f tight u states states' states'' bound bound' bound'' value value' x y within either one other = record {
    within = within;
    floor = λ told. tight _ _ _ _ (one.floor told) (other.floor told);
    notes = λ told later t. tight _ _ _ _ (one.notes told later t) (other.notes told later t);
    right = λ told p k h. elim (either p k h) [ inl i ↦ one.right told p k i | inr i ↦ other.right told p k i ];
  }

  -- a step of one end
  pub found-through : (f : ℤ → ℤ) → ((a b : ℤ) → IsNoLooser end a b → IsNoLooser end (f a) (f b)) → (u : Notes) (states : States) (bound bound' : ℤ) (value : Words → ℤ) (x : ℤ)
      → IsWithinUnits bound' (f x) → IsFound end s u states bound value x → IsFound end s u states bound' (λ w. f (value w)) (f x)
  found-through f tight u states bound bound' value x within found = record {
    within = within;
    floor = λ told. tight _ _ (found.floor told);
    notes = λ told later t. tight _ _ (found.notes told later t);
    right = found.right;
  }

  -- what the other side hasn't
  pub found-neg : (u : Notes) (states : States) (bound : ℤ) (value : Words → ℤ) (x : ℤ) → IsFound (other end) s u states bound value x → IsFound end s u states bound (λ w. neg_ℤ (value w)) (neg_ℤ x)
  found-neg u states bound value x found = record {
    within = let low = found.within.from in let high = found.within.to in record { from = omega (arith, ints); to = omega (arith, ints) };
    floor = λ told. tight-neg end _ _ (found.floor told);
    notes = λ told later t. tight-neg end _ _ (found.notes told later t);
    right = found.right;
  }

pub max-within : (bound x y : ℤ) → IsWithinUnits bound x → IsWithinUnits bound y → IsWithinUnits bound (int_max x y)
max-within bound x y h k = record { from = omega (arith, ints, clamps, h.from, k.from); to = omega (arith, ints, clamps, h.to, k.to) }

pub min-within : (bound x y : ℤ) → IsWithinUnits bound x → IsWithinUnits bound y → IsWithinUnits bound (int_min x y)
min-within bound x y h k = record { from = omega (arith, ints, clamps, h.from, k.from); to = omega (arith, ints, clamps, h.to, k.to) }
