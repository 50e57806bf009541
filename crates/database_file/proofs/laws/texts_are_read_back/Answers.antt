use Rattle.word_pages.specs.declared.version.Version.TheVariants.{Three}
use Rattle.std.proofs.Common.{arith}
use Rattle.database_file.proofs.FileTexts.{base-of, text-ends, text-latest, text-loaded, text-of, text-one}
use Rattle.database_file.proofs.laws.texts_are_read_back.Goals as goal

pub returns-clause-exactly : goal.returns-clause-exactly
returns-clause-exactly c = λ oldest bytes are. (text-of oldest bytes are, λ text. (base-of oldest text.0 text.1 text.2 bytes text.3 text.4).right)

pub returns-clause-latest : goal.returns-clause-latest
returns-clause-latest c = λ bytes are. (text-latest bytes are, λ text. (base-of Three Three text.0 text.1 bytes (omega arith) text.2).right)

pub returns-clause-held : goal.returns-clause-held
returns-clause-held c = base-of

pub returns-clause-loaded : goal.returns-clause-loaded
returns-clause-loaded c = text-loaded

pub returns-clause-one : goal.returns-clause-one
returns-clause-one c = λ version other head other_head words other_words bytes is also. text-one version other head other_head words other_words bytes is also

pub returns-clause-end : goal.returns-clause-end
returns-clause-end c = λ version other head other_head words other_words bytes rest is also. text-ends version other head other_head words other_words bytes rest is also
