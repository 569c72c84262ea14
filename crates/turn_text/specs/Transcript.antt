-- What a turn writes: its lines, and behind them a line for an end that is no return.
use Rattle.std.specs.Prelude.{ℕ, List, [], ◌++◌, map, codes, unwrap_or, slice_get, encode_utf8_all}
use Rattle.std.specs.Fmt.{decimal}
use Rattle.std.specs.Char.Utf16.{utf16_lossy_chars}
use Rattle.std.specs.List.{flat_map}
use Rattle.dart_base.specs.declared.place.Place.{Place}
use Rattle.dart_ir.specs.Kind.{site_kind_text}
use Rattle.dart_ir.specs.declared.ending.Line.{Line}
use Rattle.dart_ir.specs.declared.ending.Line.TheVariants.{Printed, Report}
use Rattle.dart_ir.specs.declared.kind.SiteKind.{SiteKind}
use Rattle.core_program.specs.Program.{Site}
use Rattle.evaluation.specs.Checks.{site_place}
use Rattle.evaluation.specs.State.{Ending, out_of_steps, out_of_objects, out_of_depth, integer_limit, needs_double, type_limit, check_failed}
use Rattle.evaluation.specs.Turn.{End, returned, uncaught, limit, blank}

abbrev pub with_end : List ℕ → List ℕ
with_end line = line ++ codes "\n"

-- units of UTF-16 in UTF-8; a surrogate without its partner is U+FFFD
abbrev pub text_bytes : List ℕ → List ℕ
text_bytes units = encode_utf8_all (utf16_lossy_chars units)

-- ---- places

-- control bytes are blanks
abbrev pub shown_name : List ℕ → List ℕ
shown_name name = map blank name

-- the name of a unit's file; none for a number that is no unit
abbrev pub file_name : List (List ℕ) → ℕ → List ℕ
file_name files unit = shown_name (unwrap_or (slice_get files unit) [])

-- FILE:LINE
abbrev pub place_bytes : List (List ℕ) → Place → List ℕ
place_bytes files place = file_name files place.unit ++ (codes ":" ++ decimal place.line)

-- FILE:LINE:COLUMN
abbrev pub exact_bytes : List (List ℕ) → Place → List ℕ
exact_bytes files place = place_bytes files place ++ (codes ":" ++ decimal place.column)

-- ---- the lines

-- the line of a check of this kind that failed at a place: `** check KIND FILE:LINE:COLUMN`
abbrev pub report_bytes : List (List ℕ) → Place → SiteKind → List ℕ
report_bytes files place kind = with_end (codes "** check " ++ (site_kind_text kind ++ (codes " " ++ exact_bytes files place)))

-- What is printed is a line, and so is the report of a check that failed, at the place of its site. A number that is no site has the place
-- with which evaluation throws the error of its check, line 0 of the first file.
abbrev pub line_bytes : List (List ℕ) → List (Site ℕ) → Line → List ℕ
line_bytes files sites (Printed units) = with_end (text_bytes units)
line_bytes files sites (Report site kind) = report_bytes files (site_place (slice_get sites site.0)) kind

abbrev pub lines_bytes : List (List ℕ) → List (Site ℕ) → List Line → List ℕ
lines_bytes files sites lines = flat_map (line_bytes files sites) lines

-- ---- the end

-- No turn of a program ends at its first failed check: that is a means of the laws alone.
abbrev pub limit_name : Ending → List ℕ
limit_name out_of_steps = codes "OutOfSteps"
limit_name out_of_objects = codes "OutOfObjects"
limit_name out_of_depth = codes "OutOfDepth"
limit_name integer_limit = codes "IntegerLimit"
limit_name needs_double = codes "NeedsDouble"
limit_name type_limit = codes "TypeLimit"
limit_name (check_failed site) = codes "CheckFailed"

-- FILE:LINE TEXT
abbrev pub thrown_bytes : List (List ℕ) → Place → List ℕ → List ℕ
thrown_bytes files place text = place_bytes files place ++ (codes " " ++ text_bytes text)

-- nothing for a return, and else a line: the place and text of what nothing caught, or the limit
abbrev pub end_bytes : List (List ℕ) → End → List ℕ
end_bytes files returned = []
end_bytes files (uncaught place text) = with_end (codes "** uncaught " ++ thrown_bytes files place text)
end_bytes files (limit which) = with_end (codes "** limit " ++ limit_name which)

-- ---- the whole

-- what a turn of a program with these files and sites writes
abbrev pub turn_bytes : List (List ℕ) → List (Site ℕ) → List Line → End → List ℕ
turn_bytes files sites lines end = lines_bytes files sites lines ++ end_bytes files end
