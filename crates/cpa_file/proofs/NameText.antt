-- The bytes of a name are text.
use Rattle.std.proofs.Common.{◌≡◌, ℕ, zero, suc, ◌<◌, ◌&&◌, nat_le, true, List, [], ◌∷◌, length, arith}
use Rattle.std.specs.List.{list_all}
use Rattle.std.specs.Str.{IsAscii, IsUtf8}
use Rattle.std.proofs.lemmas.Bool.{and_parts}
use Rattle.std.proofs.lemmas.Bool.Decides.{nat_tests}
use Rattle.std.proofs.lemmas.Str.{IsUtf8-from_ascii}
use Rattle.cpa_units.specs.declared.limits.TheConstants.{MAX_NAME}
use Rattle.cpa_units.specs.Name.{is_name, is_name_byte}

byte-ascii : (b : ℕ) → is_name_byte b ≡ true → b < 128
byte-ascii b h = grind (arith, nat_tests)

bytes-ascii : (bs : List ℕ) → list_all is_name_byte bs ≡ true → IsAscii bs
bytes-ascii [] h i = omega arith
bytes-ascii (b ∷ bs) h zero = byte-ascii b (and_parts _ _ h).0
bytes-ascii (b ∷ bs) h (suc i) = bytes-ascii bs (and_parts _ _ h).1 i

pub name_is_text : (bs : List ℕ) → is_name bs ≡ true → IsUtf8 bs
name_is_text bs h =
    IsUtf8-from_ascii bs (bytes-ascii bs (and_parts (nat_le 1 (length bs) && nat_le (length bs) MAX_NAME) (list_all is_name_byte bs) h).1)
