use Rattle.std.proofs.Common.{rules, tests, ◌∙◌, string_bytes}
use Rattle.std.proofs.lemmas.Iterator.{YieldsList-from_slice}
use Rattle.std.proofs.lemmas.Iterator.Search.{any_from_yields_List}
use Rattle.std.specs.declared.alloc.Global.{Global}
use Rattle.std.specs.declared.string.String.{String}
use Rattle.command_line.specs.Words.{is_option_named}
use Rattle.command_line.proofs.Mapped.{any-of-bytes}
use Rattle.command_line.proofs.command.has_option.Goals as goal

pub returns : goal.returns
returns c =
    let is_named = is_option_named c.args.option.now in
    any_from_yields_List (λ (word : String Global). is_named (string_bytes word)) _ _ c.any.result c.any.ensures.ran (YieldsList-from_slice c.args.words.now cc) (λ x b q k. search (rules, tests))
    ∙ any-of-bytes is_named c.args.words.now
