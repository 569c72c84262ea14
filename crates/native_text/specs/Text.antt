-- What the natives of strings do. A string is the list of its units of UTF-16.
use Rattle.std.specs.Prelude.{ℕ, suc, ◌+◌, ◌-◌, ◌*◌, ◌/◌, ◌%◌, List, [], ◌∷◌, ◌++◌, length, drop, fold, slice_index, slice_range, Option, Some, None, option_map, Bool, true, false, nat_lt, nat_le, nat_eq, ◌&&◌, ◌==◌, if◌then◌else◌, ℤ, pos, negsuc, neg_ℤ}
use Rattle.std.specs.Cmp.Lexicographic.{slice_cmp}
use Rattle.std.specs.List.{list_all, starts_with}
use Rattle.std.specs.Ordering.{nat_cmp}
use Rattle.std.specs.declared.cmp.Ordering.{Ordering}
use Rattle.std.specs.declared.cmp.Ordering.TheVariants.{Less, Equal, Greater}
use Rattle.dart_ir.specs.declared.kind.ThrowKind.TheVariants.{ArgumentError, RangeError, FormatException}
use Rattle.dart_ir.specs.declared.native.NativeId.{NativeId}
use Rattle.dart_ir.specs.declared.native.NativeId.TheVariants as n
use Rattle.dart_ir.specs.declared.value.Value.{Value}
use Rattle.dart_ir.specs.Object.{text}
use Rattle.dart_store.specs.Heap.{Heap}
use Rattle.native_number.specs.Number.{number_of, whole}
use Rattle.native_base.specs.Plan.{Plan, answers, makes, throw, number, needs, place, number_or, text_at}

-- ---- units

-- a string of the unit there
abbrev pub unit_text : List ℕ → ℤ → Plan
unit_text s i = needs RangeError (place (length s) i) (λ k. makes (text (slice_index s k ∷ [])))

abbrev pub code_unit : List ℕ → ℤ → Plan
code_unit s i = needs RangeError (place (length s) i) (λ k. number (pos (slice_index s k)))

-- one unit, or two above FFFF
abbrev pub units_of_code : ℕ → List ℕ
units_of_code c =
    if nat_lt c 0x1_0000 then c ∷ [] else (0xD800 + (c - 0x1_0000) / 0x400) ∷ (0xDC00 + (c - 0x1_0000) % 0x400) ∷ []

abbrev pub text_of_code : ℤ → Plan
text_of_code c = needs RangeError (place 0x11_0000 c) (λ k. makes (text (units_of_code k)))

-- ---- parts

-- the places where a part begins and ends, if they are 0 ≤ start ≤ end ≤ length
abbrev pub part_range : ℕ → ℤ → ℤ → Option (ℕ × ℕ)
part_range n (pos i) (pos j) = if nat_le i j && nat_le j n then Some (i, j) else None
part_range n i j = None

-- the units from one place to another
abbrev pub part : List ℕ → ℤ → ℤ → Plan
part s i j = needs RangeError (part_range (length s) i j) (λ p. makes (text (slice_range s p.0 p.1)))

-- the least place from which a text stands in another
abbrev pub first_place : List ℕ → List ℕ → Option ℕ
first_place p [] = if starts_with nat_eq [] p then Some 0 else None
first_place p (u ∷ s) = if starts_with nat_eq (u ∷ s) p then Some 0 else option_map suc (first_place p s)

abbrev pub place_or_minus_one : ℕ → Option ℕ → ℤ
place_or_minus_one i (Some k) = pos (i + k)
place_or_minus_one i None = negsuc 0

-- the least place from i on, or -1
abbrev pub index_of : List ℕ → List ℕ → ℤ → Plan
index_of s p i =
    needs RangeError (place (length s + 1) i) (λ k. number (place_or_minus_one k (first_place p (drop k s))))

-- ---- order

abbrev pub order_number : Ordering → ℤ
order_number Less = negsuc 0
order_number Equal = pos 0
order_number Greater = pos 1

-- -1, 0 or 1, by the first units that differ
abbrev pub order : List ℕ → List ℕ → ℤ
order s t = order_number (slice_cmp nat_cmp s t)

-- ---- numbers

abbrev pub is_digit : ℕ → Bool
is_digit u = nat_le 48 u && nat_le u 57

-- the number of one or more digits
abbrev pub digits_value : List ℕ → ℕ
digits_value digits = fold (λ n u. n * 10 + (u - 48)) 0 digits

abbrev pub natural : List ℕ → Option ℕ
natural [] = None
natural (u ∷ more) = if list_all is_digit (u ∷ more) then Some (digits_value (u ∷ more)) else None

-- the number of digits with an optional `-` before them
abbrev pub integer : List ℕ → Option ℤ
integer [] = None
integer (u ∷ more) =
    if u == 45 then option_map (λ n. neg_ℤ (pos n)) (natural more) else option_map pos (natural (u ∷ more))

abbrev pub parsed : List ℕ → Plan
parsed units = needs FormatException (integer units) (λ z. answers (whole z))

-- ---- the table

abbrev pub is_text_native : NativeId → Bool
is_text_native n.IntParse = true
is_text_native n.StringFromCharCode = true
is_text_native n.StringLength = true
is_text_native n.StringIndex = true
is_text_native n.StringAdd = true
is_text_native n.StringCodeUnitAt = true
is_text_native n.StringSubstring = true
is_text_native n.StringIndexOf = true
is_text_native n.StringCompareTo = true
is_text_native native = false

-- of the string s: first the kinds of all arguments, which are an ArgumentError
abbrev pub of_text : NativeId → (Value → Option (List ℕ)) → List ℕ → Value → Value → Plan
of_text n.IntParse texts s x y = parsed s
of_text n.StringLength texts s x y = number (pos (length s))
of_text n.StringIndex texts s x y = needs ArgumentError (number_of x) (unit_text s)
of_text n.StringCodeUnitAt texts s x y = needs ArgumentError (number_of x) (code_unit s)
of_text n.StringAdd texts s x y = needs ArgumentError (texts x) (λ t. makes (text (s ++ t)))
of_text n.StringCompareTo texts s x y = needs ArgumentError (texts x) (λ t. number (order s t))
of_text n.StringSubstring texts s x y =
    needs ArgumentError (number_of x) (λ i. needs ArgumentError (number_or (pos (length s)) y) (part s i))
of_text n.StringIndexOf texts s x y =
    needs ArgumentError (texts x) (λ p. needs ArgumentError (number_or (pos 0) y) (index_of s p))
of_text native texts s x y = throw ArgumentError

-- what a native of strings does for its first argument and two more
abbrev pub text_native : NativeId → List (List ℕ) → Heap → Value → Value → Value → Plan
text_native n.StringFromCharCode literals h this x y = needs ArgumentError (number_of this) text_of_code
text_native native literals h this x y =
    needs ArgumentError (text_at literals h this) (λ s. of_text native (text_at literals h) s x y)
