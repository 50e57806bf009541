use Rattle.std.proofs.Common.{◌≡◌, ◌∙◌, ◌+◌, List, true, false, refl, sym, subst, arith}
use Rattle.game_record.specs.declared.record.Game.{Game}
use Rattle.record_maker.specs.Makers.{makes_another, sheet_of}
use Rattle.record_maker.specs.Making.{AllMade, first_sheet}
use Rattle.record_maker.proofs.Games.{all-made-more, another-made, last-made}
use Rattle.record_maker.proofs.draw.draw_record.Goals as goal

pub make_game-requires-clause-room : goal.make_game-requires-clause-room
make_game-requires-clause-room c =
    (another-made c.making.count c.args.games c.making.maker.size (sym c.makes_another.ensures ∙ c.making-test.true)).1

pub make_game-requires-clause-few : goal.make_game-requires-clause-few
make_game-requires-clause-few c =
    let more = another-made c.making.count c.args.games c.making.maker.size (sym c.makes_another.ensures ∙ c.making-test.true) in
    omega (arith, more.0, c.requires.to)

-- one more game was made
pub making-preserved : goal.making-preserved
making-preserved c =
    let start = first_sheet c.args.number in
    let now = sheet_of c.making.maker c.making.count in
    let next = sheet_of c.make_game.new.self (c.making.count + 1) in
    let made = all-made-more start c.making.made now c.in_ok-game.game next c.making.invariant.made c.in_ok-game.ensures.makes in
    let more = another-made c.making.count c.args.games c.making.maker.size (sym c.makes_another.ensures ∙ c.making-test.true) in
    record {
      made = subst (λ (games : List Game). AllMade start games next) (sym c.in_ok-push.ensures.ok) made;
      room = c.in_ok-game.ensures.room;
      few = omega (arith, more.0);
    }

pub returns : goal.returns
returns c =
    let stops : makes_another c.making.count c.args.games c.making.maker.size ≡ false = sym c.makes_another.ensures ∙ c.making-test.false in
    record {
      made = record {
        checkers = refl;
        stakes = refl;
        end = sheet_of c.making.maker c.making.count;
        games = c.making.invariant.made;
        last = last-made c.making.count c.args.games c.making.maker.size c.making.invariant.few stops;
      };
      room = c.making.invariant.room;
    }
