use Rattle.std.specs.Result.{result_ok}
use Rattle.position_text.specs.declared.text.BadPosition.TheVariants.{Shape}
use Rattle.std.proofs.Common.{◌≡◌, ◌≤◌, ◌∙◌, ℕ, List, [], ◌∷◌, All, Some, Err, refl, ap, sym, subst, rules, arith}
use Rattle.position_id.specs.Readings.{bits_of_bytes, mover_told, other_told, places_told, read_told, with_off}
use Rattle.position_id.proofs.Decoded.{undecoded}
use Rattle.position_id.proofs.Steps.{behind, read-long, read-step, read-written, read-behind, read-sides}
use Rattle.position_id.proofs.Told.{mover-within, other-within, off-within}
use Rattle.position_id.proofs.read.read_id.Goals as goal

abbrev zeros : List ℕ
zeros = 0 ∷ 0 ∷ 0 ∷ 0 ∷ 0 ∷ 0 ∷ 0 ∷ 0 ∷ 0 ∷ 0 ∷ []

cong : {a b c d : List ℕ} → a ≡ b → c ≡ d → with_off a c ≡ with_off b d
cong p q = cc

pub returns-then-text-ne-ID_LENGTH-clause-position : goal.returns-then-text-ne-ID_LENGTH-clause-position
returns-then-text-ne-ID_LENGTH-clause-position c = read-long c.args.text.now c.if-text-ne-ID_LENGTH.true

pub returns-then-is_err-clause-position : goal.returns-then-is_err-clause-position
returns-then-is_err-clause-position c =
    sym (read-step c.args.text.now c.if-text-ne-ID_LENGTH.false ∙ undecoded c.args.text.now c.decode_slice.result (λ i. let fits = c.type_inv.text i in omega arith) c.if-text-ne-ID_LENGTH.false (rw c.as_bytes.ensures.value at c.decode_slice.ensures.value) (sym c.is_err.ensures.value ∙ c.if-is_err.true))

pub returns-in_err-mover-clause-position : goal.returns-in_err-mover-clause-position
returns-in_err-mover-clause-position c =
    let bits : c.deref.result.now ≡ bits_of_bytes c.decode_slice.new.output = c.deref.ensures.0 ∙ c.key_bits.ensures.bits in
    let gone = rw c.in_err-mover.was at c.ok_or.ensures.variant in
    let places = rw bits at c.read_sides.ensures.places in
    let read = read-written c.args.text.now zeros c.decode_slice.new.output c.decode_slice.result (λ i. let fits = c.type_inv.text i in omega arith) c.if-text-ne-ID_LENGTH.false refl (rw c.as_bytes.ensures.value at c.decode_slice.ensures.value) (sym c.is_err.ensures.value ∙ c.if-is_err.false) (rw c.as_bytes.ensures.value at c.decode_slice.ensures.written) in
    let told : c.from_residual.result ≡ Err Shape = search rules in
    told ∙ sym (read ∙ read-behind (places_told 1 (bits_of_bytes c.decode_slice.new.output)) (behind _ _ gone places))

pub set_up-requires-clause-mover : goal.set_up-requires-clause-mover
set_up-requires-clause-mover c =
    let bits : c.deref.result.now ≡ bits_of_bytes c.decode_slice.new.output = c.deref.ensures.0 ∙ c.key_bits.ensures.bits in
    let some : c.read_sides.result ≡ Some (c.in_ok-mover.mover, c.in_ok-mover.other) = c.ok_or.ensures.ok_part ∙ ap result_ok c.in_ok-mover.was in
    let none = c.read_sides.ensures.places.0 (rw some refl) in
    let mover = rw some at c.read_sides.ensures.mover in
    let all : c.deref-4.result.now ≡ with_off (mover_told (places_told 1 c.deref.result.now)) c.deref-3.result.now = c.deref-4.ensures.0 ∙ (c.with_off.ensures ∙ ap (λ mine. with_off mine c.deref-3.result.now) (c.deref-2.ensures.0 ∙ mover)) in
    subst (All (λ place. place ≤ 25)) (sym all) (off-within (mover_told (places_told 1 c.deref.result.now)) c.deref-3.result.now (mover-within (places_told 1 c.deref.result.now) none))

pub set_up-requires-clause-other : goal.set_up-requires-clause-other
set_up-requires-clause-other c =
    let some : c.read_sides.result ≡ Some (c.in_ok-mover.mover, c.in_ok-mover.other) = c.ok_or.ensures.ok_part ∙ ap result_ok c.in_ok-mover.was in
    let other = rw some at c.read_sides.ensures.other in
    let all : c.deref-7.result.now ≡ with_off (other_told (places_told 1 c.deref.result.now)) c.deref-6.result.now = c.deref-7.ensures.0 ∙ (c.with_off-2.ensures ∙ ap (λ mine. with_off mine c.deref-6.result.now) (c.deref-5.ensures.0 ∙ other)) in
    subst (All (λ place. place ≤ 25)) (sym all) (off-within (other_told (places_told 1 c.deref.result.now)) c.deref-6.result.now (other-within (places_told 1 c.deref.result.now)))

pub returns-clause-position : goal.returns-clause-position
returns-clause-position c =
    let bits : c.deref.result.now ≡ bits_of_bytes c.decode_slice.new.output = c.deref.ensures.0 ∙ c.key_bits.ensures.bits in
    let some : c.read_sides.result ≡ Some (c.in_ok-mover.mover, c.in_ok-mover.other) = c.ok_or.ensures.ok_part ∙ ap result_ok c.in_ok-mover.was in
    let none = c.read_sides.ensures.places.0 (rw some refl) in
    let mover = rw some at c.read_sides.ensures.mover in
    let other = rw some at c.read_sides.ensures.other in
    let read = read-written c.args.text.now zeros c.decode_slice.new.output c.decode_slice.result (λ i. let fits = c.type_inv.text i in omega arith) c.if-text-ne-ID_LENGTH.false refl (rw c.as_bytes.ensures.value at c.decode_slice.ensures.value) (sym c.is_err.ensures.value ∙ c.if-is_err.false) (rw c.as_bytes.ensures.value at c.decode_slice.ensures.written) in
    let movers : c.deref-4.result.now ≡ with_off (mover_told (places_told 1 c.deref.result.now)) (other_told (places_told 1 c.deref.result.now)) = c.deref-4.ensures.0 ∙ (c.with_off.ensures ∙ cong (c.deref-2.ensures.0 ∙ mover) (c.deref-3.ensures.0 ∙ other)) in
    let others : c.deref-7.result.now ≡ with_off (other_told (places_told 1 c.deref.result.now)) (mover_told (places_told 1 c.deref.result.now)) = c.deref-7.ensures.0 ∙ (c.with_off-2.ensures ∙ cong (c.deref-5.ensures.0 ∙ other) (c.deref-6.ensures.0 ∙ mover)) in
    c.set_up.ensures.placement ∙ sym (read ∙ (ap (λ told. read_told (places_told 1 told)) (sym bits) ∙ read-sides (places_told 1 c.deref.result.now) c.deref-4.result.now c.deref-7.result.now none movers others))
