-- Forms as the code keeps them.
use Rattle.std.specs.Prelude.{Option, Some, None}
use Rattle.record_text.specs.declared.form.Form.{Form as Kept}
use Rattle.record_text.specs.declared.form.Form.TheVariants.{Title, Checkers, Stakes, MatchOf, Game, AwayGame, Roll, Double, Take, Pass, Beaver, End, Stop, Close}
use Rattle.record_text.specs.Forms.{LineForm, TitleForm, CheckersForm, StakesForm, MatchForm, GameForm, AwayForm, RollForm, DoubleForm, TakeForm, PassForm, BeaverForm, EndForm, StopForm, CloseForm}

abbrev pub form : Kept → LineForm
form Title = TitleForm
form (Checkers checkers) = CheckersForm checkers.now
form (Stakes stakes) = StakesForm stakes.now
form (MatchOf length) = MatchForm length.now
form (Game number) = GameForm number.now
form (AwayGame number a b) = AwayForm number.now a.now b.now
form (Roll player roll play) = RollForm player roll.now play.now
form (Double player) = DoubleForm player
form (Take player) = TakeForm player
form (Pass player) = PassForm player
form (Beaver player) = BeaverForm player
form (End winner points) = EndForm winner points.now
form Stop = StopForm
form Close = CloseForm

abbrev pub form_if_any : Option Kept → Option LineForm
form_if_any None = None
form_if_any (Some kept) = Some (form kept)
