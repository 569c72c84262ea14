-- Each name gives one thing where the files are told, and a text at hand is what the files have.
use Rattle.std.proofs.Common.{◌≡◌, ◌∙◌, sym, ap, refl, subst, ℕ, Bool, true, false, List, ◌∷◌, Option, Some, None, Result, Ok, Err, ◌⊎◌, inl, inr}
use Rattle.std.specs.Str.{bytes_eq}
use Rattle.std.proofs.lemmas.Slice.Eq.{bytes_eq-Decides}
use Rattle.dart_edge.specs.Files.{Files, file_of}
use Rattle.dart_front.specs.declared.fault.TextFault.{TextFault}
use Rattle.dart_front.specs.declared.fault.TextFault.TheVariants as t
use Rattle.dart_front.specs.Texts.{HasFault}
use Rattle.dart_lex.specs.declared.lexer.LexFault.{LexFault}
use Rattle.dart_lex.specs.declared.lexer.LexFault.TheVariants as lf
use Rattle.dart_lex.specs.Spelling.{Spells, HasReason, weight}
use Rattle.dart_lex.proofs.LexLaws.{one_reason, one_spelling, spelled_or_refused}
use Rattle.dart_prelude.specs.declared.texts.TheConstants.{CORE, ISOLATE}
use Rattle.dart_syntax.specs.Syntax.{SyntaxReason, left_out_at, syntax_at, too_deep_at}
use Rattle.dart_token.specs.declared.token.Token.{Token}
use Rattle.dart_tree.specs.Unit.{UnitTree}
use Rattle.parse_unit.specs.declared.fault.ParseFault.{ParseFault}
use Rattle.parse_unit.specs.declared.fault.ParseFault.TheVariants as pf
use Rattle.parse_unit.specs.Finds.{Finds}
use Rattle.syntax_readers.specs.Units.{found}
use Rattle.scope_load.specs.declared.units.TextReason.{TextReason}
use Rattle.scope_load.specs.declared.units.TextReason.TheVariants as r
use Rattle.scope_load.specs.declared.units.UnitName.{UnitName}
use Rattle.scope_load.specs.declared.units.UnitName.TheVariants as n
use Rattle.scope_load.specs.Found.{FoundIs, absent, refused, read}
use Rattle.scope_files.specs.Files.{ContentGives, GivesFile, NameGives, known}
use Rattle.scope_files.specs.Texts.{lexical_reason, syntax_reason, text_reason, IsWeighed, TextGives}

-- ---- a text gives one thing

abbrev reason_of : SyntaxReason → TextReason
reason_of (left_out_at place feature) = r.LeftOut place feature
reason_of (syntax_at place) = r.Syntax place
reason_of (too_deep_at place) = r.TooDeep place

-- why a text is no unit: it spells no tokens, or the readers find none in them
abbrev WhyNot : ℕ → List ℕ → TextReason → Type 0
WhyNot number text why =
    ((fault : LexFault) × HasReason number text fault × (lexical_reason fault ≡ Some why)) ⊎
    ((tokens : List Token) × (reason : SyntaxReason) × Spells number text tokens × (found tokens ≡ Err reason) × (why ≡ reason_of reason))

why_lexis : (number : ℕ) (text : List ℕ) (fault : LexFault) (why : TextReason) → (fault ≡ lf.Memory) ⊎ HasReason number text fault → lexical_reason fault ≡ Some why → WhyNot number text why
why_lexis number text fault why (inl memory) e =
    let none : ◌≡◌ {A = Option TextReason} None (Some why) = ap lexical_reason (sym memory) ∙ e in absurd cc
why_lexis number text fault why (inr reason) e = inl (fault, reason, e)

why_syntax : (number : ℕ) (text : List ℕ) (tokens : List Token) (fault : ParseFault) (why : TextReason) → Spells number text tokens → Finds tokens (Err fault) → syntax_reason fault ≡ Some why → WhyNot number text why
why_syntax number text tokens (pf.LeftOut place feature) why spelled is e = inr (tokens, left_out_at place feature, spelled, is, cc)
why_syntax number text tokens (pf.Syntax place) why spelled is e = inr (tokens, syntax_at place, spelled, is, cc)
why_syntax number text tokens (pf.TooDeep place) why spelled is e = inr (tokens, too_deep_at place, spelled, is, cc)
why_syntax number text tokens pf.Memory why spelled is e = absurd cc

why_not : (number : ℕ) (text : List ℕ) (fault : TextFault) (why : TextReason) → HasFault number text fault → text_reason fault ≡ Some why → WhyNot number text why
why_not number text (t.Lexis fault) why has e = why_lexis number text fault why has e
why_not number text (t.Syntax fault) why (tokens, spelled, is) e = why_syntax number text tokens fault why spelled is e
why_not number text t.Memory why has e = absurd cc

one_why : (number : ℕ) (text : List ℕ) (a b : TextReason) → WhyNot number text a → WhyNot number text b → a ≡ b
one_why number text a b (inl (fault, reason, e)) (inl (other, because, f)) =
    let both : Some a ≡ Some b = sym e ∙ ap lexical_reason (one_reason number text fault other reason because) ∙ f in cc
one_why number text a b (inl (fault, reason, e)) (inr (tokens, why, spelled, is, f)) = absurd (spelled_or_refused number text tokens fault spelled reason)
one_why number text a b (inr (tokens, why, spelled, is, e)) (inl (fault, reason, f)) = absurd (spelled_or_refused number text tokens fault spelled reason)
one_why number text a b (inr (tokens, why, spelled, is, e)) (inr (others, because, also, so, f)) =
    let same : tokens ≡ others = one_spelling number text tokens others spelled also in
    let both : ◌≡◌ {A = Result UnitTree SyntaxReason} (Err why) (Err because) = sym is ∙ ap found same ∙ so in
    let one : why ≡ because = cc in
    e ∙ ap reason_of one ∙ sym f

no_why : (number : ℕ) (text : List ℕ) (unit : UnitTree) (heavy : ℕ) (why : TextReason) → IsWeighed number text unit heavy → WhyNot number text why → ⊥
no_why number text unit heavy why (tokens, spelled, is, e) (inl (fault, reason, f)) = spelled_or_refused number text tokens fault spelled reason
no_why number text unit heavy why (tokens, spelled, is, e) (inr (others, because, also, so, f)) =
    let same : tokens ≡ others = one_spelling number text tokens others spelled also in
    let both : ◌≡◌ {A = Result UnitTree SyntaxReason} (Ok unit) (Err because) = sym is ∙ ap found same ∙ so in
    absurd cc

one_weighed : (number : ℕ) (text : List ℕ) (a b : UnitTree) (m k : ℕ) → IsWeighed number text a m → IsWeighed number text b k → read a m ≡ read b k
one_weighed number text a b m k (tokens, spelled, is, e) (others, also, so, f) =
    let same : tokens ≡ others = one_spelling number text tokens others spelled also in
    let both : ◌≡◌ {A = Result UnitTree SyntaxReason} (Ok a) (Ok b) = sym is ∙ ap found same ∙ so in
    let unit : a ≡ b = cc in
    let heavy : m ≡ k = e ∙ ap weight same ∙ sym f in
    λ i. read (unit i) (heavy i)

one_text : (number : ℕ) (text : List ℕ) (a b : FoundIs) → TextGives number text a → TextGives number text b → a ≡ b
one_text number text absent b x y = absurd x
one_text number text (refused why) absent x y = absurd y
one_text number text (refused why) (refused because) (fault, has, e) (other, also, f) =
    ap refused (one_why number text why because (why_not number text fault why has e) (why_not number text other because also f))
one_text number text (refused why) (read unit heavy) (fault, has, e) y = absurd (no_why number text unit heavy why y (why_not number text fault why has e))
one_text number text (read unit heavy) absent x y = absurd y
one_text number text (read unit heavy) (refused why) x (fault, has, e) = absurd (no_why number text unit heavy why x (why_not number text fault why has e))
one_text number text (read a m) (read b k) x y = one_weighed number text a b m k x y

-- ---- a name gives one thing

one_content : (number : ℕ) (content : Option (List ℕ)) (a b : FoundIs) → ContentGives number content a → ContentGives number content b → a ≡ b
one_content number None a b x y = x ∙ sym y
one_content number (Some text) a b x y = one_text number text a b x y

one_file : (files : Files) (number : ℕ) (name : List ℕ) (a b : FoundIs) → GivesFile (Some files) number name a → GivesFile (Some files) number name b → a ≡ b
one_file files number name a b (inl (bad, x)) (inl (also, y)) = x ∙ sym y
one_file files number name a b (inl (bad, x)) (inr (good, y)) = absurd (bad good)
one_file files number name a b (inr (good, x)) (inl (bad, y)) = absurd (bad good)
one_file files number name a b (inr (good, x)) (inr (also, y)) = one_content number (file_of files name) a b x y

pub one_name : (files : Files) (number : ℕ) (name : UnitName) (a b : FoundIs) → NameGives (Some files) number name a → NameGives (Some files) number name b → a ≡ b
one_name files number (n.File name) a b x y = one_file files number name a b x y
one_name files number n.Core a b x y = one_text number CORE.now a b x y
one_name files number n.Isolate a b x y = one_text number ISOLATE.now a b x y

-- ---- a text at hand

-- the first file has the name, or the others tell
known_first : (root text name : List ℕ) (files : Files) → bytes_eq root name ≡ true → file_of ((root, text) ∷ files) name ≡ Some text
known_first root text name files e = rw e refl

known_other : (root text name : List ℕ) (files : Files) → bytes_eq root name ≡ false → file_of ((root, text) ∷ files) name ≡ file_of files name
known_other root text name files e = rw e refl

known_content : (root text name : List ℕ) (files : Files) (same : Bool) → bytes_eq root name ≡ same → file_of files root ≡ Some text → file_of ((root, text) ∷ files) name ≡ file_of files name
known_content root text name files true e has =
    known_first root text name files e ∙ sym has ∙ ap (file_of files) ((bytes_eq-Decides root name).0 e)
known_content root text name files false e has = known_other root text name files e

known_file : (root text : List ℕ) (files : Files) → file_of files root ≡ Some text → (number : ℕ) (name : List ℕ) (gives : FoundIs) → GivesFile (known root text (Some files)) number name gives → GivesFile (Some files) number name gives
known_file root text files has number name gives (inl no_file) = inl no_file
known_file root text files has number name gives (inr (good, x)) =
    inr (good, subst (λ (content : Option (List ℕ)). ContentGives number content gives) (known_content root text name files (bytes_eq root name) refl has) x)

pub known_name : (root text : List ℕ) (files : Files) → file_of files root ≡ Some text → (number : ℕ) (name : UnitName) (gives : FoundIs) → NameGives (known root text (Some files)) number name gives → NameGives (Some files) number name gives
known_name root text files has number (n.File name) gives x = known_file root text files has number name gives x
known_name root text files has number n.Core gives x = x
known_name root text files has number n.Isolate gives x = x
