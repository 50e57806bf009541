use Rattle.std.proofs.Common.{◌≡◌, refl, ◌∙◌, sym, subst}
use Rattle.std.proofs.lemmas.Str.{IsUtf8-from_ascii}
use Rattle.std.specs.Str.{IsUtf8}
use Rattle.base64.specs.Engines.{standard_no_pad}
use Rattle.base64.proofs.EngineFacts.{IsAscii-encode_of}
use Rattle.position_id.specs.Ids.{id_text, key_bytes}
use Rattle.position_id.proofs.Made.{id-made}
use Rattle.position_id.proofs.print.print_id.Goals as goal

pub unreachable-requires-in_default-from_byte_string : goal.unreachable-requires-in_default-from_byte_string
unfolding id_text
unreachable-requires-in_default-from_byte_string c =
    let text : c.encode_slice.new.output ≡ id_text c.args.position.now = id-made c.args.position.now _ _ c.encode_slice.new.output (c.deref.ensures.0 ∙ c.key_bytes-key.ensures) refl c.in-Ok.ensures.written in
    let right = c.in_default-from_byte_string.ensures.variant.1 (subst IsUtf8 (sym text) (IsUtf8-from_ascii (id_text c.args.position.now) (IsAscii-encode_of standard_no_pad (key_bytes c.args.position.now)))) in
    cc right

pub returns : goal.returns
returns c =
    let text : c.encode_slice.new.output ≡ id_text c.args.position.now = id-made c.args.position.now _ _ c.encode_slice.new.output (c.deref.ensures.0 ∙ c.key_bytes-key.ensures) refl c.in-Ok.ensures.written in
    c.in-Ok-from_byte_string.ensures.ok ∙ text
