-- Bytes that are followed by a digest, which may bind them to other bytes too.
use Rattle.std.specs.Prelude.{◌≡◌, ◌≢◌, ℕ, ◌-◌, Bool, List, [], ◌++◌, length, take}
use Rattle.std.specs.Str.{bytes_eq}
use Rattle.byteorder.specs.Endian.{big_bytes}
use Rattle.sha2.specs.Sha256.{sha256}
use Rattle.word_pages.specs.declared.version.Version.{Version}
use Rattle.word_pages.specs.declared.version.Version.TheVariants.{Three}

-- the bytes, and the digest of what they are bound to and of them, of 32 bytes
abbrev pub sealed_under : List ℕ → List ℕ → List ℕ
sealed_under binding bytes = bytes ++ sha256 (binding ++ bytes)

-- the last 32 bytes are the digest of what those before them are bound to and of these
abbrev pub is_sealed_under : List ℕ → List ℕ → Bool
is_sealed_under binding bytes =
    bytes_eq bytes (sealed_under binding (take (length bytes - 32) bytes))

-- the same of bytes that are bound to nothing
abbrev pub sealed : List ℕ → List ℕ
sealed bytes = sealed_under [] bytes

abbrev pub is_sealed : List ℕ → Bool
is_sealed bytes = is_sealed_under [] bytes

-- what the page with this number, counted from 0, is bound to in a file whose head has this digest
abbrev pub binding_of : Version → List ℕ → ℕ → List ℕ
binding_of Three digest number = digest ++ big_bytes 8 number
binding_of _ digest number = []

-- two texts that differ and have the same digest
pub record AreTwins (one other : List ℕ) : Type 0 where
  pub differ : one ≢ other
  pub same : sha256 one ≡ sha256 other
