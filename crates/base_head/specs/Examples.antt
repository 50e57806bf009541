-- A header that was reckoned by hand.
use Rattle.cube_actions.specs.declared.name.MoneyRule.TheVariants.{Cubeless}
use Rattle.cube_actions.specs.declared.name.StakesName.TheVariants.{Unlimited}
use Rattle.word_pages.specs.declared.version.Version.{Version}
use Rattle.base_head.specs.declared.header.Header.{Header}

-- one checker without a cube, after 8 rounds: there are 601 live positions
abbrev pub cubeless_header : Version → Header
cubeless_header version = record {
  version = version;
  checkers = 1;
  name = Unlimited Cubeless;
  match_length = 0;
  kinds = 1;
  rounds = 8;
  starts = 0;
  positions = 601;
}
