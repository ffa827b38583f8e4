-- The program's hash route: a number made of the bytes of the route's name and of the key.
use Rattle.std.specs.Prelude.{ℕ, ◌+◌, ◌*◌, ◌%◌, ◌^◌, List, [], ◌∷◌, ◌++◌, flat_map}
use Rattle.std.specs.List.{fold}
use Rattle.std.specs.Int.{w64, to_be_bytes, cast_unsigned}
use Rattle.vx_rows_values.specs.Values.{Val, num, text, Row}

-- the hash after one more byte
abbrev pub hash_byte : ℕ → ℕ → ℕ
hash_byte hash byte = (hash * 31 + byte) % 2 ^ 32

-- a value as bytes: 1 and a number's 8 bytes in two's complement, the highest first; or 2, a text's bytes, and 0
abbrev pub value_bytes : Val → List ℕ
value_bytes (num n) = 1 ∷ to_be_bytes w64 (cast_unsigned w64 n)
value_bytes (text s) = 2 ∷ (s ++ 0 ∷ [])

-- the hash of a key from 7 on: the route's name, 0, and the key's values
abbrev pub key_hash : List ℕ → Row → ℕ
key_hash name key = fold hash_byte 7 (name ++ 0 ∷ [] ++ flat_map value_bytes key)

-- the consumer of a key among n
abbrev pub byte_route : List ℕ → Row → ℕ → ℕ
byte_route name key n = key_hash name key % n
