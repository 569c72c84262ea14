-- The law of `part` and `part of`, which the second token tells apart (ECMA-408, 18.3 Parts).
use Rattle.std.proofs.Common.{◌≡◌, ℕ, zero, suc, ◌<◌, arith, Bool, true, false, ◌&&◌, if◌then◌else◌, List, [], ◌∷◌, ◌++◌, Err, inl, inr, refl, sym, ap, ◌∙◌, subst}
use Rattle.dart_base.specs.declared.place.Place.{Place}
use Rattle.dart_token.specs.declared.token.Token.{Token}
use Rattle.dart_token.specs.declared.sign.Sign.TheVariants as s
use Rattle.dart_token.specs.declared.word.Word.{Word}
use Rattle.dart_token.specs.declared.word.Word.TheVariants as w
use Rattle.dart_tree.specs.LeafTokens.{sign_at}
use Rattle.dart_tree.specs.Depth.{metadata_height}
use Rattle.dart_tree.specs.Tree.{Expr, Metadata}
use Rattle.dart_tree.specs.declared.identifier.DotName.{DotName}
use Rattle.dart_tree.specs.declared.identifier.Identifier.{Identifier}
use Rattle.dart_tree.specs.Unit.{DirectiveKind}
use Rattle.dart_tree.specs.UnitTokens.{of_text, directive_kind_tokens}
use Rattle.grammar_laws.specs.Codes.{has, nowhere}
use Rattle.grammar_laws.specs.Depth.{is_below}
use Rattle.grammar_laws.specs.Readers.{Reader, mapped, both, nothing, starts, by_two}
use Rattle.grammar_laws.specs.Fronts.{Front, Either, EitherFit}
use Rattle.grammar_laws.specs.Laws.{Laws}
use Rattle.grammar_laws.proofs.Codes.{apart, apart_none, clash, and_true, and_both, not_true, inside, within_self, within_none}
use Rattle.grammar_laws.proofs.Cuts.{both_empty}
use Rattle.grammar_laws.proofs.Joints.{begins}
use Rattle.grammar_laws.proofs.Restated.{made_laws, nothing_laws, restated, reread}
use Rattle.grammar_laws.proofs.Combined.{both_laws}
use Rattle.grammar_laws.proofs.Chosen.{by_two_laws}
use Rattle.dart_syntax.specs.Phrases.{Phrase, ◌~◌, made}
use Rattle.dart_syntax.specs.Leaves as l
use Rattle.dart_syntax.specs.Expressions as g
use Rattle.dart_syntax.specs.Statements.{within}
use Rattle.dart_syntax.specs.Units as p
use Rattle.token_codes.specs.Codes.{class_of, names, of_code, these, this_word}
use Rattle.token_codes.specs.Leaves.{contextual, sign}
use Rattle.token_codes.specs.Reads.{Reads}
use Rattle.token_codes.proofs.Leaves.{sign_reads}
use Rattle.token_codes.proofs.Only.{only_word}
use Rattle.syntax_readers.specs.Primaries.{string_first}
use Rattle.syntax_readers.specs.Statements.{stage, closed}
use Rattle.syntax_readers.specs.Units as i
use Rattle.syntax_readers.specs.Units.{Item, Still, all_directives, imports_and_parts, only_parts, no_directives, may_begin, may_have_parts, part_of_comes}
use Rattle.laws_unit.specs.Statements.{part_of_kind, part_kind, StringsReadAt}
use Rattle.laws_unit.proofs.Names.{of_reads}
use Rattle.laws_unit.proofs.Directives.{dotted_laws, part_of_laws, part_laws, to_part_of, to_part}
use Rattle.laws_unit.proofs.Conditions.{GivenFit, given_front, only_laws}
use Rattle.laws_unit.proofs.Items.{behind_tokens, to_directive, Behind, node_laws, directive_laws}

-- ---- a directive that begins with this word, and something behind it

module _ (which : Word) {B : Type 0} {x : Reader Token B} {q : Phrase B} {first : List ℕ} {next : B → List ℕ} (X : Reads x q first next false) (f : Place × B → DirectiveKind) (said : (y : Place × B) → directive_kind_tokens (f y) ≡ (l.word which ~ q).spelling y) where
  abbrev Worded : Phrase DirectiveKind
  Worded = made directive_kind_tokens f (l.word which ~ q)

  no_more : (t u : Token) (ts : List Token) → (l.word which).front (t ∷ u ∷ ts) → ⊥
  no_more t u ts (inl e) = absurd cc
  no_more t u ts (inr (place, e)) = absurd cc

  second : (t u : Token) (ts : List Token) → (Worded ~ l.sign s.Semicolon).front (t ∷ u ∷ ts) → has first (class_of u) ≡ true
  second t u ts (inl (inl h)) = absurd (no_more t u ts h)
  second t u ts (inl (inr (place, more, fits, go, e, h))) = let same : u ∷ ts ≡ more = cc in X.firsts u ts (subst q.front (sym same) h)
  second t u ts (inr (k, more, (y, fits, is), go, e, h)) =
      let whole : t ∷ u ∷ ts ≡ ((l.word which).spelling y.0 ++ q.spelling y.1) ++ more = e ∙ ap (λ (z : DirectiveKind). directive_kind_tokens z ++ more) (sym is) ∙ ap (λ (m : List Token). m ++ more) (said y) in
      let same : u ∷ ts ≡ q.spelling y.1 ++ more = cc in
      ap (starts class_of first) same ∙ begins X y.1 more fits.1

  lone : (t : Token) → has (this_word which) (class_of t) ≡ true → (Worded ~ l.sign s.Semicolon).front (t ∷ [])
  lone t h = inl (inl (inr (t.place, ap (λ (z : Token). z ∷ []) (sym (only_word which t h)))))

  long : (m : Metadata) (a : Item) (t : Token) → (made behind_tokens (to_directive m) (Worded ~ l.sign s.Semicolon)).Fits a → behind_tokens a ≡ t ∷ [] → ⊥
  long m a t ((k, semicolon), ((y, fits, so), own), is) e =
      let whole : ((l.word which).spelling y.0 ++ q.spelling y.1) ++ sign_at semicolon s.Semicolon ∷ [] ≡ t ∷ [] = ap (λ (z : List Token). z ++ sign_at semicolon s.Semicolon ∷ []) (sym (said y)) ∙ ap (λ (z : DirectiveKind). directive_kind_tokens z ++ sign_at semicolon s.Semicolon ∷ []) so ∙ ap behind_tokens is ∙ e in
      let tail : q.spelling y.1 ++ sign_at semicolon s.Semicolon ∷ [] ≡ [] = cc in
      let none : sign_at semicolon s.Semicolon ∷ [] ≡ [] = (both_empty (q.spelling y.1) (sign_at semicolon s.Semicolon ∷ []) tail).1 in
      absurd cc

-- ---- both, behind their metadata

abbrev pub part_code : List ℕ
part_code = this_word w.Part

abbrev of_codes : List ℕ
of_codes = of_code ∷ []

abbrev of_names : Phrase (Place × (Identifier × List DotName))
of_names = l.named of_text ~ p.dotted

of_names_laws : Reads (both (contextual of_code) i.dotted) of_names of_codes (λ x. these s.Dot) false
of_names_laws = both_laws of_reads dotted_laws (λ place fits. apart_none names)

abbrev pub PartOf : g.ExprNodes → Phrase DirectiveKind
PartOf inner = part_of_kind

abbrev read_part_of : Reader Token Expr → Reader Token DirectiveKind
read_part_of expr = i.part_of

module _ (j : ℕ) (S : StringsReadAt j) (m : Metadata) where
  abbrev Header : Phrase Item
  Header = Behind PartOf (suc j) m

  abbrev Part : Phrase Item
  Part = Behind part_kind (suc j) m

  abbrev inner : g.ExprNodes
  inner = (within j).nodes.expr_nodes

  abbrev read_header : Reader Token Item
  read_header = mapped (to_directive m) (both i.part_of (sign s.Semicolon))

  abbrev read_part : Reader Token Item
  read_part = mapped (to_directive m) (both (i.part (closed (stage j).nodes.exprs)) (sign s.Semicolon))

  header_laws : Reads read_header Header part_code nowhere false
  header_laws = made_laws (both_laws part_of_laws (sign_reads s.Semicolon) (λ x fits. apart refl)) (to_directive m) behind_tokens nowhere (λ x fits. refl) (λ x fits. within_none [])

  only_part_laws : Reads read_part Part part_code nowhere false
  only_part_laws = made_laws (both_laws (part_laws (closed (stage j).nodes.exprs) inner S) (sign_reads s.Semicolon) (λ x fits. apart refl)) (to_directive m) behind_tokens nowhere (λ x fits. refl) (λ x fits. within_none [])

  part_two : (t u : Token) (ts : List Token) → Part.front (t ∷ u ∷ ts) → (has part_code (class_of t) && has of_codes (class_of u)) ≡ false
  part_two t u ts h = not_true (has part_code (class_of t) && has of_codes (class_of u)) (λ on. (apart {xs = of_codes} {ys = string_first} refl).never_both (class_of u) (and_both (has part_code (class_of t)) (has of_codes (class_of u)) on).1 (second w.Part S to_part (λ y. refl) t u ts h))

  chosen_laws : Laws class_of (by_two class_of part_code of_codes read_header read_part) behind_tokens (EitherFit Header.Fits Part.Fits) (Either Header.front Part.front) (part_code ++ part_code) nowhere false
  chosen_laws = by_two_laws header_laws only_part_laws part_code of_codes
      (λ t h. lone w.Part of_names_laws to_part_of (λ y. refl) t h)
      (λ t h. lone w.Part S to_part (λ y. refl) t (header_laws.firsts t [] h))
      (λ t u ts h. and_true (has part_code (class_of t)) (has of_codes (class_of u)) (header_laws.firsts t (u ∷ ts) h) (second w.Part of_names_laws to_part_of (λ y. refl) t u ts h))
      part_two
      (λ a t fits e. long w.Part of_names_laws to_part_of (λ y. refl) m a t fits e)
      (λ a t fits e h. absurd (long w.Part S to_part (λ y. refl) m a t fits e))

-- ---- where a directive has room

alike : {A : Type 0} (b c : Bool) (p q : Reader Token A) (ts : List Token) → (if c then (if b then p ts else Err ts) else (if b then q ts else Err ts)) ≡ (if b then (if c then p ts else q ts) else Err ts)
alike true true p q ts = refl
alike true false p q ts = refl
alike false true p q ts = refl
alike false false p q ts = refl

never : {A : Type 0} (b c : Bool) (ts : List Token) → (if c then (if b then Err ts else Err ts) else (if b then Err ts else Err ts)) ≡ nothing {A = A} ts
never true true ts = refl
never true false ts = refl
never false true ts = refl
never false false ts = refl

abbrev pub Fits : ℕ → Still → Metadata → Item → Type 0
Fits n still m = EitherFit (GivenFit (may_begin still && is_below metadata_height n m) (Behind PartOf n m).Fits) (GivenFit (may_have_parts still && is_below metadata_height n m) (Behind part_kind n m).Fits)

abbrev pub front : ℕ → Still → Metadata → Front Token
front n still m = Either (given_front (may_begin still && is_below metadata_height n m) (Behind PartOf n m).front) (given_front (may_have_parts still && is_below metadata_height n m) (Behind part_kind n m).front)

abbrev pub Claim : ℕ → Still → Metadata → Type 0
Claim n still m = Laws class_of (i.part_or_header n m still) behind_tokens (Fits n still m) (front n still m) part_code nowhere false

module _ (j : ℕ) (S : StringsReadAt j) (m : Metadata) where
  abbrev room : Bool
  room = is_below metadata_height (suc j) m

  out : (ts : List Token) → given_front room (Either (Header j S m).front (Part j S m).front) ts → front (suc j) all_directives m ts
  out ts (inl e) = inl (inl e)
  out ts (inr (on, inl h)) = inl (inr (on, h))
  out ts (inr (on, inr h)) = inr (inr (on, h))

  into : (ts : List Token) → front (suc j) all_directives m ts → given_front room (Either (Header j S m).front (Part j S m).front) ts
  into ts (inl (inl e)) = inl e
  into ts (inr (inl e)) = inl e
  into ts (inl (inr (on, h))) = inr (on, inl h)
  into ts (inr (inr (on, h))) = inr (on, inr h)

  forth : (a : Item) → GivenFit room (EitherFit (Header j S m).Fits (Part j S m).Fits) a → Fits (suc j) all_directives m a
  forth a (on, inl h) = inl (on, h)
  forth a (on, inr h) = inr (on, h)

  back : (a : Item) → Fits (suc j) all_directives m a → GivenFit room (EitherFit (Header j S m).Fits (Part j S m).Fits) a
  back a (inl (on, h)) = (on, inl h)
  back a (inr (on, h)) = (on, inr h)

  all_laws : Claim (suc j) all_directives m
  unfolding i.part_or_header i.directive
  all_laws = reread (restated (only_laws (chosen_laws j S m) room) forth back out into (inside refl) (λ a fits. within_none []) (λ h. h)) (λ ts. alike room (part_of_comes ts) (read_header j S m) (read_part j S m) ts)

module _ (m : Metadata) where
  abbrev room_none : Bool
  room_none = is_below metadata_height zero m

  none_fits : (K : g.ExprNodes → Phrase DirectiveKind) (a : Item) → (Behind K zero m).Fits a → ⊥
  none_fits K a (x, fits, is) = fits.0

  none_begins : (K : g.ExprNodes → Phrase DirectiveKind) (ts : List Token) → (Behind K zero m).front ts → ts ≡ []
  none_begins K ts (inl e) = e
  none_begins K ts (inr (k, more, fits, go, e, h)) = absurd fits

  back_none : (a : Item) → Fits zero all_directives m a → ⊥
  back_none a (inl (on, h)) = none_fits PartOf a h
  back_none a (inr (on, h)) = none_fits part_kind a h

  into_none : (ts : List Token) → front zero all_directives m ts → ts ≡ []
  into_none ts (inl (inl e)) = e
  into_none ts (inr (inl e)) = e
  into_none ts (inl (inr (on, h))) = none_begins PartOf ts h
  into_none ts (inr (inr (on, h))) = none_begins part_kind ts h

  none_laws : Claim zero all_directives m
  unfolding i.part_or_header i.directive
  none_laws = reread (restated (nothing_laws {class_of = class_of} behind_tokens part_code nowhere false) (λ a no. absurd no) back_none (λ ts e. inl (inl e)) into_none (within_self part_code) (λ a no. absurd no) (λ h. h)) (λ ts. never {A = Item} room_none (part_of_comes ts) ts)

-- where none may begin a part there is no choice
module _ (n : ℕ) (S : (m : ℕ) → m < n → StringsReadAt m) (m : Metadata) where
  read_parts : (may : Bool) → Laws class_of (i.directive n m may i.part) behind_tokens (GivenFit (may && is_below metadata_height n m) (Behind part_kind n m).Fits) (given_front (may && is_below metadata_height n m) (Behind part_kind n m).front) part_code nowhere false
  read_parts may = directive_laws part_kind (λ inner k. refl) i.part part_code (λ x. string_first) n (node_laws part_kind (λ inner k. refl) i.part part_code (λ x. string_first) n (λ j less. part_laws (closed (stage j).nodes.exprs) (within j).nodes.expr_nodes (S j less))) (λ x. apart refl) m may

  abbrev one_front : Bool → Front Token
  one_front may = Either (given_front false (Behind PartOf n m).front) (given_front (may && is_below metadata_height n m) (Behind part_kind n m).front)

  abbrev OneFits : Bool → Item → Type 0
  OneFits may = EitherFit (GivenFit false (Behind PartOf n m).Fits) (GivenFit (may && is_below metadata_height n m) (Behind part_kind n m).Fits)

  lonely_fit : (may : Bool) (a : Item) → OneFits may a → GivenFit (may && is_below metadata_height n m) (Behind part_kind n m).Fits a
  lonely_fit may a (inl (on, h)) = clash false on refl
  lonely_fit may a (inr h) = h

  lonely_front : (may : Bool) (ts : List Token) → one_front may ts → given_front (may && is_below metadata_height n m) (Behind part_kind n m).front ts
  lonely_front may ts (inl (inl e)) = inl e
  lonely_front may ts (inl (inr (on, h))) = clash false on refl
  lonely_front may ts (inr h) = h

  one_laws : (may : Bool) → Laws class_of (i.directive n m may i.part) behind_tokens (OneFits may) (one_front may) part_code nowhere false
  one_laws may = restated (read_parts may) (λ a fits. inr fits) (lonely_fit may) (λ ts h. inr h) (lonely_front may) (within_self part_code) (λ a fits. within_none []) (λ h. h)

pub part_or_header_laws : (n : ℕ) → ((m : ℕ) → m < n → StringsReadAt m) → (still : Still) (m : Metadata) → Claim n still m
unfolding i.part_or_header
part_or_header_laws zero S all_directives m = none_laws m
part_or_header_laws (suc j) S all_directives m = all_laws j (S j (omega arith)) m
part_or_header_laws n S imports_and_parts m = one_laws n S m true
part_or_header_laws n S only_parts m = one_laws n S m true
part_or_header_laws n S no_directives m = one_laws n S m false
