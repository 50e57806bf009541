use Rattle.std.proofs.Common.{refl}
use Rattle.base64.specs.Rfc4648.{encode_symbols}
use Rattle.position_rank.specs.Packed.{counts_of}
use Rattle.position_id.specs.Ids.{id_text, key_bytes, key_bits, board_bits}
use Rattle.position_id.proofs.laws.ids_are_as_printed.Goals as goal

pub returns-clause-three : goal.returns-clause-three
unfolding id_text key_bytes key_bits board_bits counts_of encode_symbols
returns-clause-three c = refl

pub returns-clause-two : goal.returns-clause-two
unfolding id_text key_bytes key_bits board_bits counts_of encode_symbols
returns-clause-two c = refl

pub returns-clause-one : goal.returns-clause-one
unfolding id_text key_bytes key_bits board_bits counts_of encode_symbols
returns-clause-one c = refl

pub returns-clause-entering : goal.returns-clause-entering
unfolding id_text key_bytes key_bits board_bits counts_of encode_symbols
returns-clause-entering c = refl

pub returns-clause-hit : goal.returns-clause-hit
unfolding id_text key_bytes key_bits board_bits counts_of encode_symbols
returns-clause-hit c = refl

pub returns-clause-barred : goal.returns-clause-barred
unfolding id_text key_bytes key_bits board_bits counts_of encode_symbols
returns-clause-barred c = refl

pub returns-clause-mover_barred : goal.returns-clause-mover_barred
unfolding id_text key_bytes key_bits board_bits counts_of encode_symbols
returns-clause-mover_barred c = refl

pub returns-clause-other_barred : goal.returns-clause-other_barred
unfolding id_text key_bytes key_bits board_bits counts_of encode_symbols
returns-clause-other_barred c = refl

pub returns-clause-off : goal.returns-clause-off
unfolding id_text key_bytes key_bits board_bits counts_of encode_symbols
returns-clause-off c = refl

pub returns-clause-spread : goal.returns-clause-spread
unfolding id_text key_bytes key_bits board_bits counts_of encode_symbols
returns-clause-spread c = refl
