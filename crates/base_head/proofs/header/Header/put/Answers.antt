use Rattle.std.proofs.Common.{◌≡◌, ◌∙◌, ℕ, List, [], ◌∷◌, ◌++◌, flat_map, append_assoc}
use Rattle.byteorder.specs.Endian.{big_bytes}
use Rattle.base_head.specs.Headers.{far_field, field, magic, near_field, phase_field, stakes_number, version_number}
use Rattle.base_head.proofs.header.Header.put.Goals as goal

joined : (out : List ℕ) (a b c d e f g h i j positions : ℕ)
    → (((out ++ magic) ++ flat_map field (a ∷ b ∷ c ∷ d ∷ e ∷ f ∷ g ∷ h ∷ i ∷ j ∷ [])) ++ big_bytes 8 positions) ++ (0 ∷ 0 ∷ 0 ∷ 0 ∷ 0 ∷ 0 ∷ 0 ∷ 0 ∷ [])
    ≡ out ++ (magic ++ field a ++ field b ++ field c ++ field d ++ field e ++ field f ++ field g ++ field h ++ field i ++ field j ++ big_bytes 8 positions ++ big_bytes 8 0)
joined out a b c d e f g h i j positions =
    let fields = flat_map field (a ∷ b ∷ c ∷ d ∷ e ∷ f ∷ g ∷ h ∷ i ∷ j ∷ []) in
    let zeros = 0 ∷ 0 ∷ 0 ∷ 0 ∷ 0 ∷ 0 ∷ 0 ∷ 0 ∷ [] in
    append_assoc ((out ++ magic) ++ fields) (big_bytes 8 positions) zeros
    ∙ append_assoc (out ++ magic) fields (big_bytes 8 positions ++ zeros)
    ∙ append_assoc out magic (fields ++ (big_bytes 8 positions ++ zeros))

pub returns : goal.returns
returns g c =
    rw (c.put_bytes-3.ensures, c.put_bytes-2.ensures, c.put_fields.ensures, c.put_bytes.ensures, c.to_be_bytes.ensures, c.version_number.ensures, c.from.ensures, c.stakes_number.ensures, c.match_fields.ensures, c.from-2.ensures, c.from-3.ensures, c.from-4.ensures)
    (let header = c.args.self.now in
    joined c.args.out.now.items (version_number header.version) header.checkers (stakes_number header.name) (near_field header.name) (far_field header.name) (phase_field header.name) header.match_length header.kinds header.rounds header.starts header.positions)
