-- The law of statements of a depth (ECMA-408, 17 Statements), over those of each kind and what is asked of the grammar.
use Rattle.std.proofs.Common.{◌≡◌, ℕ, zero, suc, true, false, not, inl, inr, List, [], ◌∷◌, ◌++◌, None, refl, sym, ap, subst, ◌∙◌, append_assoc}
use Rattle.std.specs.List.{flat_map, AllByRecursion}
use Rattle.dart_base.specs.declared.place.Place.{Place}
use Rattle.dart_token.specs.declared.token.Token.{Token}
use Rattle.dart_token.specs.declared.sign.Sign.TheVariants as s
use Rattle.dart_tree.specs.declared.identifier.Label.{Label}
use Rattle.dart_tree.specs.Types.{TypeNode}
use Rattle.dart_tree.specs.Tree as t
use Rattle.dart_tree.specs.Tree.{Stmt}
use Rattle.dart_tree.specs.Tokens.{stmt_tokens}
use Rattle.grammar_laws.specs.Codes.{has, Within}
use Rattle.grammar_laws.proofs.Codes.{apart, and_both, clash, has_left, has_right, inside, not_true}
use Rattle.dart_syntax.specs.Phrases.{Phrase}
use Rattle.dart_syntax.specs.Leaves as l
use Rattle.dart_syntax.specs.Types.{type_within}
use Rattle.dart_syntax.specs.Statements as p
use Rattle.dart_syntax.specs.Statements.{within, is_shut}
use Rattle.dart_syntax.proofs.AgreeingStages.{said_labels}
use Rattle.token_codes.specs.Codes.{class_of, names, on_code, sign_code, these}
use Rattle.syntax_readers.specs.Types.{type_first}
use Rattle.syntax_readers.specs.Statements as i
use Rattle.syntax_readers.specs.Statements.{stage, open_try, calls, compound_first, jump_first, declaration_first, stmt_first, label_comes}
use Rattle.laws_type.proofs.Types.{types_read_at}
use Rattle.laws_apart.specs.Statements.{body_codes, ApartAt, behind_on_name}
use Rattle.laws_block.specs.Begun.{on_phrase, room, level_of, still_of, ReadsBegun, StmtReads, Partless}
use Rattle.laws_stmt.specs.Statements.{BlockReadAt, unbraced_first}
use Rattle.laws_stmt.specs.Besides.{SinglesReadAt}
use Rattle.laws_block.specs.Statements.{StatementsReadAt, CompoundReadAt}
use Rattle.laws_block.proofs.Bare.{BareApart, bare_apart}
use Rattle.laws_block.proofs.On.{on_reads}
use Rattle.laws_block.proofs.Levels.{still_within}
use Rattle.laws_block.proofs.Beginnings.{type_two, on_second}
use Rattle.laws_block.proofs.Combined.{made_begun, restated_begun}
use Rattle.laws_block.proofs.Single.{one_whole, one_begins, one_filled}
use Rattle.laws_block.proofs.Declaring.{unlabelled_begun}
use Rattle.laws_block.proofs.Labels.{label_comes_at, unlabelled, labelled_begun}
use Rattle.laws_block.proofs.Others.{others_begun}
use Rattle.laws_block.proofs.PartTests.{ends_run}
use Rattle.laws_block.proofs.Switching.{Parted, behind_parts}

-- labels change nothing of what ends a statement
same_open : (labels : List Label) (x : Stmt) → open_try (t.with_labels labels x) ≡ open_try x
unfolding open_try
same_open [] x = refl
same_open (y ∷ labels) x = same_open labels x

same_shut : (labels : List Label) (x : Stmt) → is_shut (t.with_labels labels x) ≡ is_shut x
unfolding is_shut
same_shut [] x = refl
same_shut (y ∷ labels) x = same_shut labels x

module _ (n : ℕ) (I : SinglesReadAt n) (B : BlockReadAt n) (C : CompoundReadAt n) (P : ApartAt n) where
  abbrev nodes : p.StmtNodes
  nodes = (within n).nodes

  A : BareApart n
  A = bare_apart n I B C P

  abbrev Bare : Phrase Stmt
  Bare = p.unlabelled_of nodes

  declared_never : (x : Stmt) → (p.declaration_of nodes).Fits x → level_of n x ≡ None
  unfolding open_try
  declared_never x (inl (y, fits, e)) = ap (level_of n) (sym e)
  declared_never x (inr (y, fits, e)) = ap (level_of n) (sym e)

  abbrev first : List ℕ
  first = declaration_first ++ (these s.LeftBrace ++ (compound_first ++ (jump_first ++ unbraced_first)))

  U : ReadsBegun (i.unlabelled (stage n).nodes) Bare first (level_of n) (still_of n)
  unfolding i.unlabelled
  U = unlabelled_begun I.declaration (others_begun n B C I) declared_never A.over_declaration A.over_other A.never_both calls

  abbrev to_stmt : List Label × Stmt → Stmt
  to_stmt x = t.with_labels x.0 x.1

  same : (x : List Label × Stmt) → level_of n (to_stmt x) ≡ level_of n x.1
  same x = ap (room n) (same_open x.0 x.1)

  still_inside : (x : List Label × Stmt) → Within (still_of n x.1) (still_of n (to_stmt x))
  still_inside x = still_within (level_of n x.1) (level_of n (to_stmt x)) (not (is_shut x.1)) (not (is_shut (to_stmt x))) (same x) (λ e. ap not (same_shut x.0 x.1) ∙ e)

  name_alone : (x : Stmt) (a : Token) → Bare.Fits x → Bare.spelling x ≡ a ∷ [] → has names (class_of a) ≡ true → ⊥
  name_alone x a fits e n = A.no_name x a fits e n

  labelled : ReadsBegun (i.stmt_of (stage n).nodes) (p.stmt_of nodes) stmt_first (level_of n) (still_of n)
  unfolding i.stmt_of
  labelled = restated_begun (made_begun (labelled_begun U (inside refl) A.no_label name_alone) to_stmt stmt_tokens (level_of n) (still_of n) (λ x fits. same x) (λ x fits. said_labels x.0 x.1) (λ x fits. still_inside x))
      (λ x fits. fits) (λ x fits. fits) (λ ts f. f) (λ ts f. f) (inside refl)

  -- ---- no statement begins as another part of a `try` does

  three : (a b c : Token) (ts : List Token) → has names (class_of a) ≡ true → has type_first (class_of b) ≡ true → has behind_on_name (class_of c) ≡ true → (p.stmt_of nodes).front (a ∷ b ∷ c ∷ ts) → ⊥
  three a b c ts na tb bc f =
      let off : label_comes ((a ∷ b ∷ c ∷ ts) ++ []) ≡ false = not_true (label_comes (a ∷ b ∷ c ∷ ts)) (λ on. no_colon b tb (and_both (has names (class_of a)) (has (these s.Colon) (class_of b)) on).1) in
      elim (unlabelled U (inside refl) A.no_label name_alone (a ∷ b ∷ c ∷ ts) [] off f) as (λ _. ⊥) [
        | inl (inl e) ↦ absurd cc
        | inl (inr (d, e, h)) ↦ absurd cc
        | inr g ↦ A.no_part a b c ts na tb bc g
      ] where
        no_colon : (b : Token) → has type_first (class_of b) ≡ true → has (these s.Colon) (class_of b) ≡ true → ⊥
        no_colon b tb on = (apart {xs = type_first} {ys = these s.Colon} refl).never_both (class_of b) tb on

  on_named : (t : Token) → has (on_code ∷ []) (class_of t) ≡ true → has names (class_of t) ≡ true
  on_named t on = (inside {xs = on_code ∷ []} {ys = names} refl).in_second (class_of t) on

  no_part_of : (k : ℕ) (a : Token) (m : List Token) (t : Token) → has (on_code ∷ []) (class_of a) ≡ true → (m ≡ [] → ⊥) → (type_within k).front m → has body_codes (class_of t) ≡ true → (p.stmt_of nodes).front (a ∷ (m ++ t ∷ [])) → ⊥
  no_part_of k a [] t on some f body g = some refl
  no_part_of k a (b ∷ []) t on some f body g = three a b t [] (on_named a on) ((types_read_at k).type.firsts b [] f) (has_right (sign_code s.Less ∷ sign_code s.Dot ∷ []) body_codes (class_of t) body) g
  no_part_of k a (b ∷ c ∷ m) t on some f body g = three a b c (m ++ t ∷ []) (on_named a on) ((types_read_at k).type.firsts b (c ∷ m) f) (has_left (sign_code s.Less ∷ sign_code s.Dot ∷ []) body_codes (class_of c) (type_two k b c m f)) g

  filled : (k : ℕ) (x : TypeNode) → (type_within k).Fits x → (type_within k).spelling x ≡ [] → ⊥
  filled k x fits e = clash false ((types_read_at k).type.empties x fits e) refl

  no_part : (k : ℕ) (x : Place × TypeNode) (t : Token) → (on_phrase k).Fits x → has body_codes (class_of t) ≡ true → (p.stmt_of nodes).front ((on_phrase k).spelling x ++ t ∷ []) → ⊥
  no_part k (place, of) t fits body f = no_part_of k _ ((type_within k).spelling of) t ((on_reads k).firsts _ ((type_within k).spelling of) ((on_reads k).whole (place, of) fits)) (λ e. filled k of fits.1 e) ((types_read_at k).type.whole of fits.1) body f

  on_label : (k : ℕ) (ts : List Token) → (on_phrase k).front ts → label_comes ts ≡ true → ⊥
  on_label k [] f on = absurd cc
  on_label k (a ∷ []) f on = absurd cc
  on_label k (a ∷ c ∷ ts) f on = (apart {xs = type_first} {ys = these s.Colon} refl).never_both (class_of c) ((types_read_at k).type.firsts c ts (on_second k a c ts f)) (and_both (has names (class_of a)) (has (these s.Colon) (class_of c)) on).1

  bare_begun : (k : ℕ) (x : Stmt) (m : List Token) → Bare.Fits x → stmt_tokens x ≡ m → (on_phrase k).front m → ⊥
  bare_begun k x [] fits e f = one_filled U x fits e
  bare_begun k x (a ∷ []) fits e f = A.no_name x a fits e (on_named a ((on_reads k).firsts a [] f))
  bare_begun k x (a ∷ b ∷ []) fits e f = A.no_two x a b fits e (on_named a ((on_reads k).firsts a (b ∷ []) f)) ((types_read_at k).type.firsts b [] (on_second k a b [] f))
  bare_begun k x (a ∷ b ∷ c ∷ m) fits e f =
      let g : (type_within k).front (b ∷ c ∷ m) = on_second k a b (c ∷ m) f in
      A.no_part a b c m (on_named a ((on_reads k).firsts a (b ∷ c ∷ m) f)) ((types_read_at k).type.firsts b (c ∷ m) g) (has_left (sign_code s.Less ∷ sign_code s.Dot ∷ []) body_codes (class_of c) (type_two k b c m g))
      (subst Bare.front e (one_whole U x fits))

  labelled_by : (k : ℕ) (labels : List Label) (x : Stmt) → AllByRecursion l.label.Fits labels → Bare.Fits x → (on_phrase k).front (stmt_tokens (t.with_labels labels x)) → ⊥
  labelled_by k [] x all fits f = bare_begun k x (stmt_tokens x) fits refl f
  labelled_by k (y ∷ labels) x all fits f =
      let said = said_labels (y ∷ labels) x ∙ append_assoc (l.label.spelling y) (flat_map l.label.spelling labels) (stmt_tokens x) in
      on_label k (l.label.spelling y ++ (flat_map l.label.spelling labels ++ stmt_tokens x)) (subst (on_phrase k).front said f) (label_comes_at y (flat_map l.label.spelling labels ++ stmt_tokens x) all.0)

  not_begun : (k : ℕ) (a : Stmt) → (p.stmt_of nodes).Fits a → (on_phrase k).front (stmt_tokens a) → ⊥
  not_begun k a ((labels, x), fits, e) f = labelled_by k labels x fits.0 fits.1 (subst (λ (y : Stmt). (on_phrase k).front (stmt_tokens y)) (sym e) f)

  partless : Partless (p.stmt_of nodes)
  partless = record { no_part = no_part; not_begun = not_begun }

  -- ---- what tells statements from further parts of a `switch`

  with_its_labels : (x : Stmt) → (p.stmt_of nodes).Fits x →
      (xs : List Label) × (y : Stmt) × AllByRecursion l.label.Fits xs × Bare.Fits y
      × ((p.stmt_of nodes).spelling x ≡ flat_map l.label.spelling xs ++ Bare.spelling y)
  with_its_labels x ((xs, y), fits, e) = (xs, y, fits.0, fits.1, ap stmt_tokens (sym e) ∙ said_labels xs y)

  parted : Parted (p.stmt_of nodes)
  parted r firsts begun = ends_run U (inside refl) (apart refl) A.no_label name_alone (p.stmt_of nodes) with_its_labels (λ ts f. f) (λ ts f. f)
      (λ t ts f. labelled.laws.firsts t ts f) (λ x rest fits. one_begins labelled x rest fits) r firsts begun behind_parts

-- what stands at a depth is made of its nodes
reads_at : (n : ℕ) → StmtReads n (i.stmt_of (stage n).nodes) (p.stmt_of (within n).nodes) stmt_first → StmtReads n (stage n).stmt (within n).stmt stmt_first
unfolding i.stage i.nodes_over p.within p.nodes_over
reads_at zero S = S
reads_at (suc n) S = S

partless_at : (n : ℕ) → Partless (p.stmt_of (within n).nodes) → Partless (within n).stmt
unfolding p.within p.nodes_over
partless_at zero N = N
partless_at (suc n) N = N

pub statements_at : (n : ℕ) → SinglesReadAt n → BlockReadAt n → CompoundReadAt n → ApartAt n → StatementsReadAt n
statements_at n I B C A = record { reads = reads_at n (labelled n I B C A); partless = partless_at n (partless n I B C A) }

parted_within : (n : ℕ) → Parted (p.stmt_of (within n).nodes) → Parted (within n).stmt
unfolding p.within p.nodes_over
parted_within zero E = E
parted_within (suc n) E = E

pub parted_at : (n : ℕ) → SinglesReadAt n → BlockReadAt n → CompoundReadAt n → ApartAt n → Parted (within n).stmt
parted_at n I B C A = parted_within n (parted n I B C A)
