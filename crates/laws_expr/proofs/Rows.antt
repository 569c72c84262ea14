-- The rows of the grammar's table: each shape has one law.
use Rattle.std.proofs.Common.{◌≡◌, ℕ, suc, ◌≤◌, ◌<◌, Bool, true, false, not, List, [], ◌∷◌, inl, inr, refl, ap, sym, subst, ◌∙◌, Some, ◌⊎◌, ◌&&◌}
use Rattle.dart_token.specs.declared.token.Token.{Token}
use Rattle.dart_token.specs.declared.sign.Sign.{Sign}
use Rattle.dart_token.specs.declared.sign.Sign.TheVariants as s
use Rattle.dart_tree.specs.declared.operator.Operator.{Operator}
use Rattle.dart_tree.specs.LeafTokens.{type_tokens}
use Rattle.dart_tree.specs.Types.{TypeNode}
use Rattle.dart_tree.specs.Depth.{operand_height}
use Rattle.dart_tree.specs.Tree.{Operand}
use Rattle.dart_tree.specs.Tokens.{operand_tokens}
use Rattle.grammar_laws.specs.Codes.{disjoint, within}
use Rattle.grammar_laws.specs.Readers.{Reader}
use Rattle.grammar_laws.specs.Fronts.{Front, Either, EitherFit, GoodFit}
use Rattle.grammar_laws.specs.Laws.{Laws}
use Rattle.grammar_laws.proofs.Codes.{apart, clash}
use Rattle.dart_syntax.specs.Phrases.{Phrase}
use Rattle.dart_syntax.specs.Leaves as l
use Rattle.dart_syntax.specs.Edges.{compares, nowhere, repeats, leaves, opens_nothing, operand_takes}
use Rattle.dart_syntax.specs.Expressions as g
use Rattle.dart_syntax.specs.Levels.{level, sign_level}
use Rattle.token_codes.specs.Codes.{class_of, sign_codes}
use Rattle.token_codes.proofs.Leaves.{Distinct, one_of_reads}
use Rattle.syntax_readers.specs.Combinators.{Open}
use Rattle.syntax_readers.specs.Types.{type_first}
use Rattle.syntax_readers.specs.Primaries.{ExprReaders, operand_first}
use Rattle.laws_type.specs.Nexts.{after_type}
use Rattle.syntax_readers.specs.Levels.{whole, is_bare, row_over}
use Rattle.laws_expr.specs.Nexts.{Taking, nexts, after_operand}
use Rattle.laws_expr.proofs.Behind.{alone}
use Rattle.laws_expr.proofs.Open.{OpenLaws, Settled}
use Rattle.laws_expr.proofs.Edges.{at, codes_at, others_apart}
use Rattle.laws_expr.proofs.Chain.{half_operand, chain_laws, operand_settled, node_settled, operand_kept}
use Rattle.laws_expr.proofs.Tails.{last_leaves}
use Rattle.laws_expr.proofs.Once.{once_laws, once_operand_settled, once_node_settled}
use Rattle.laws_expr.proofs.Refusing.{refuses, last_refuses, tail_refuses}
use Rattle.laws_expr.proofs.Sets.{not_false}
use Rattle.laws_expr.proofs.Shifts.{shift_laws}
use Rattle.laws_expr.proofs.Shifts as sh
use Rattle.laws_expr.proofs.Relational.{relational_laws}
use Rattle.laws_expr.proofs.Relational as re
use Rattle.grammar_laws.specs.Depth.{is_below}
use Rattle.dart_base.specs.declared.place.Place.{Place}

-- these signs are one row of the table of what goes on, and bind alike
pub record IsRow (signs : List Sign) (loose row : ℕ) : Type 0 where
  pub others : others_apart row nexts (sign_codes signs) ≡ true
  pub own : within (sign_codes signs) (codes_at row nexts) ≡ true
  pub here : (takes : Taking) → at row nexts takes ≡ takes loose opens_nothing
  pub apart_alone : disjoint alone (sign_codes signs) ≡ true
  pub distinct : Distinct signs
  pub leveled : (o : Operator) → (l.one_of signs).Fits o → level o ≡ loose

abbrev Leveled : List Sign → ℕ → Type 0
Leveled [] loose = Unit {0}
Leveled (x ∷ more) loose = (sign_level x ≡ loose) × Leveled more loose

all_level : (signs : List Sign) (loose : ℕ) → Leveled signs loose → (o : Operator) → (l.one_of signs).Fits o → level o ≡ loose
all_level [] loose known o fits = absurd fits
all_level (x ∷ more) loose known o (inl (place, fits, is)) = ap level (sym is) ∙ known.0
all_level (x ∷ more) loose known o (inr fits) = all_level more loose known.1 o fits

pub products : IsRow (s.Star ∷ s.Slash ∷ s.TildeSlash ∷ s.Percent ∷ []) 11 12
products = record { others = refl; own = refl; here = λ takes. refl; apart_alone = refl; distinct = (apart refl, (apart refl, (apart refl, (apart refl, tt)))); leveled = all_level (s.Star ∷ s.Slash ∷ s.TildeSlash ∷ s.Percent ∷ []) 11 (refl, (refl, (refl, (refl, tt)))) }

pub sums : IsRow (s.Plus ∷ s.Minus ∷ []) 10 11
sums = record { others = refl; own = refl; here = λ takes. refl; apart_alone = refl; distinct = (apart refl, (apart refl, tt)); leveled = all_level (s.Plus ∷ s.Minus ∷ []) 10 (refl, (refl, tt)) }

pub conjunctions : IsRow (s.Ampersand ∷ []) 8 9
conjunctions = record { others = refl; own = refl; here = λ takes. refl; apart_alone = refl; distinct = (apart refl, tt); leveled = all_level (s.Ampersand ∷ []) 8 (refl, tt) }

pub exclusions : IsRow (s.Caret ∷ []) 7 8
exclusions = record { others = refl; own = refl; here = λ takes. refl; apart_alone = refl; distinct = (apart refl, tt); leveled = all_level (s.Caret ∷ []) 7 (refl, tt) }

pub disjunctions : IsRow (s.Bar ∷ []) 6 7
disjunctions = record { others = refl; own = refl; here = λ takes. refl; apart_alone = refl; distinct = (apart refl, tt); leveled = all_level (s.Bar ∷ []) 6 (refl, tt) }

pub equalities : IsRow (s.EqualEqual ∷ s.NotEqual ∷ []) 4 4
equalities = record { others = refl; own = refl; here = λ takes. refl; apart_alone = refl; distinct = (apart refl, (apart refl, tt)); leveled = all_level (s.EqualEqual ∷ s.NotEqual ∷ []) 4 (refl, (refl, tt)) }

pub both_hold : IsRow (s.AndAnd ∷ []) 3 3
both_hold = record { others = refl; own = refl; here = λ takes. refl; apart_alone = refl; distinct = (apart refl, tt); leveled = all_level (s.AndAnd ∷ []) 3 (refl, tt) }

pub one_holds : IsRow (s.OrOr ∷ []) 2 2
one_holds = record { others = refl; own = refl; here = λ takes. refl; apart_alone = refl; distinct = (apart refl, tt); leveled = all_level (s.OrOr ∷ []) 2 (refl, tt) }

-- ---- what is asked of the operands of a row: those here, and those one node less deep

pub record Operands (n loose : ℕ) (here lower : Reader Token (Open Operand)) (F U D : Operand → Type 0) (front ufront dfront : Front Token) (first ufirst : List ℕ) : Type 1 where
  pub above : OpenLaws here operand_tokens F front first (after_operand (suc loose)) (half_operand (suc loose))
  pub below : OpenLaws (whole lower) operand_tokens U ufront ufirst (after_operand (suc loose)) (half_operand (suc loose))
  -- those that have room for the operator's node stand one node less deep, and there begin what begins here
  pub down : (x : Operand) → F x → operand_height x < n → D x
  pub up : (x : Operand) → D x → F x × (operand_height x < n)
  pub rise : (ts : List Token) → dfront ts → front ts
  -- an operator of the row may follow each
  pub rises : (x : Operand) → F x → operand_takes loose opens_nothing loose x ≡ true

-- operands of a row, which have their own tokens
abbrev pub operands : (Operand → Type 0) → Front Token → Phrase Operand
operands U ufront = record { spelling = operand_tokens; Fits = U; front = ufront }

module _ {n : ℕ} (inner : ExprReaders) (nodes : g.ExprNodes) {here lower : Reader Token (Open Operand)} {F U : Operand → Type 0} {front ufront : Front Token} {first ufirst : List ℕ} where
  -- rows of any number of operators, where `super` may be the first operand
  pub chained_laws : (sign : Sign) (more : List Sign) (row : ℕ) → IsRow (sign ∷ more) (sign_level sign) row → repeats (sign_level sign) ≡ true →
      Operands n (sign_level sign) here lower F U (EitherFit U nodes.bare.Fits) front ufront (Either ufront nodes.bare.front) first ufirst →
      OpenLaws (row_over n inner (g.chained sign more) here lower) operand_tokens (EitherFit F (g.row_over (g.chained sign more) nodes (operands U ufront)).Fits) (Either front (g.row_over (g.chained sign more) nodes (operands U ufront)).front) first (after_operand (sign_level sign)) (half_operand (sign_level sign))
  unfolding row_over
  chained_laws sign more row is again O = chain_laws (sign_level sign) n (sign ∷ more) row is.others is.own is.here is.apart_alone again (one_of_reads (sign ∷ more) is.distinct) is.leveled O.above lower O.below O.down O.up O.rise O.rises

  -- a `>` behind such a row is given as a half, or stopped before, where that holds of its operands
  pub chained_settled : (sign : Sign) (more : List Sign) (row : ℕ) (is : IsRow (sign ∷ more) (sign_level sign) row) (again : repeats (sign_level sign) ≡ true)
      (O : Operands n (sign_level sign) here lower F U (EitherFit U nodes.bare.Fits) front ufront (Either ufront nodes.bare.front) first ufirst) (next : ℕ) → next < nowhere →
      ((x : Operand) → U x → leaves next x ≡ true → Settled O.below x) → ((x : Operand) → F x → leaves next x ≡ true → Settled O.above x) →
      (x : Operand) → EitherFit F (g.row_over (g.chained sign more) nodes (operands U ufront)).Fits x → leaves next x ≡ true → Settled (chained_laws sign more row is again O) x
  unfolding chained_laws row_over
  chained_settled sign more row is again O next lt low high x (inl fits) left = operand_settled (sign_level sign) n (sign ∷ more) row is.others is.own is.here is.apart_alone again (one_of_reads (sign ∷ more) is.distinct) is.leveled O.above lower O.below O.down O.up O.rise O.rises x fits (high x fits left)
  chained_settled sign more row is again O next lt low high x (inr ((y, all), ((d, on), some), e)) left =
      subst (Settled (chained_laws sign more row is again O)) e (node_settled (sign_level sign) n (sign ∷ more) row is.others is.own is.here is.apart_alone again (one_of_reads (sign ∷ more) is.distinct) is.leveled O.above lower O.below O.down O.up O.rise O.rises (λ z. leaves next z) low y all d on some
      (last_leaves next lt y all some.0 (subst (λ z. leaves next z ≡ true) (sym e) left)))

  pub chained_kept : (sign : Sign) (more : List Sign) (row : ℕ) (is : IsRow (sign ∷ more) (sign_level sign) row) (again : repeats (sign_level sign) ≡ true)
      (O : Operands n (sign_level sign) here lower F U (EitherFit U nodes.bare.Fits) front ufront (Either ufront nodes.bare.front) first ufirst) →
      (x : Operand) → ((g : Place) → O.above.Fits (x, Some g)) → (g : Place) → (chained_laws sign more row is again O).Fits (x, Some g)
  unfolding chained_laws row_over
  chained_kept sign more row is again O x known g = operand_kept (sign_level sign) n (sign ∷ more) row is.others is.own is.here is.apart_alone again (one_of_reads (sign ∷ more) is.distinct) is.leveled O.above lower O.below O.down O.up O.rise O.rises x known g

  -- and without it
  pub logical_laws : (sign : Sign) (row : ℕ) → IsRow (sign ∷ []) (sign_level sign) row → repeats (sign_level sign) ≡ true →
      Operands n (sign_level sign) here lower F U U front ufront ufront first ufirst →
      OpenLaws (row_over n inner (g.logical sign) here lower) operand_tokens (EitherFit F (g.row_over (g.logical sign) nodes (operands U ufront)).Fits) (Either front (g.row_over (g.logical sign) nodes (operands U ufront)).front) first (after_operand (sign_level sign)) (half_operand (sign_level sign))
  unfolding row_over
  logical_laws sign row is again O = chain_laws (sign_level sign) n (sign ∷ []) row is.others is.own is.here is.apart_alone again (one_of_reads (sign ∷ []) is.distinct) is.leveled O.above lower O.below O.down O.up O.rise O.rises

  pub logical_kept : (sign : Sign) (row : ℕ) (is : IsRow (sign ∷ []) (sign_level sign) row) (again : repeats (sign_level sign) ≡ true) (O : Operands n (sign_level sign) here lower F U U front ufront ufront first ufirst) →
      (x : Operand) → F x → Settled O.above x → Settled (logical_laws sign row is again O) x
  unfolding logical_laws row_over
  logical_kept sign row is again O x fits settled = operand_settled (sign_level sign) n (sign ∷ []) row is.others is.own is.here is.apart_alone again (one_of_reads (sign ∷ []) is.distinct) is.leveled O.above lower O.below O.down O.up O.rise O.rises x fits settled

  -- and where its last operand, like the row, takes no operator that binds so
  pub logical_settled : (sign : Sign) (row : ℕ) (is : IsRow (sign ∷ []) (sign_level sign) row) (again : repeats (sign_level sign) ≡ true) (O : Operands n (sign_level sign) here lower F U U front ufront ufront first ufirst) (next : ℕ) → suc (sign_level sign) ≤ next →
      ((x : Operand) → U x → refuses next x ≡ true → Settled O.below x) → ((x : Operand) → F x → refuses next x ≡ true → Settled O.above x) →
      (x : Operand) → EitherFit F (g.row_over (g.logical sign) nodes (operands U ufront)).Fits x → refuses next x ≡ true → Settled (logical_laws sign row is again O) x
  unfolding logical_laws row_over
  logical_settled sign row is again O next tight low high x (inl fits) off = operand_settled (sign_level sign) n (sign ∷ []) row is.others is.own is.here is.apart_alone again (one_of_reads (sign ∷ []) is.distinct) is.leveled O.above lower O.below O.down O.up O.rise O.rises x fits (high x fits off)
  logical_settled sign row is again O next tight low high x (inr ((y, all), ((d, on), some), e)) off =
      subst (Settled (logical_laws sign row is again O)) e (node_settled (sign_level sign) n (sign ∷ []) row is.others is.own is.here is.apart_alone again (one_of_reads (sign ∷ []) is.distinct) is.leveled O.above lower O.below O.down O.up O.rise O.rises (refuses next) low y all d on some
      (last_refuses next (sign_level sign) tight (l.one_of (sign ∷ [])).Fits U is.leveled (λ z. leaves (sign_level sign) z.1) y all some.0 some.1 (subst (λ z. refuses next z ≡ true) (sym e) off)))

  -- a row of one operator at most, behind which `super` alone is refused
  pub single_laws : (sign : Sign) (more : List Sign) (row : ℕ) → IsRow (sign ∷ more) (sign_level sign) row →
      Operands n (sign_level sign) here lower F U (EitherFit U nodes.bare.Fits) front ufront (Either ufront nodes.bare.front) first ufirst →
      OpenLaws (row_over n inner (g.single sign more) here lower) operand_tokens (GoodFit (EitherFit F (g.row_over (g.single sign more) nodes (operands U ufront)).Fits) (λ x. not (is_bare x))) (Either front (g.row_over (g.single sign more) nodes (operands U ufront)).front) first (after_operand (sign_level sign)) (half_operand (sign_level sign))
  unfolding row_over
  single_laws sign more row is O = once_laws (sign_level sign) n (sign ∷ more) row is.others is.own is.here is.apart_alone (one_of_reads (sign ∷ more) is.distinct) is.leveled O.above lower O.below O.down O.up O.rise O.rises

  pub single_kept : (sign : Sign) (more : List Sign) (row : ℕ) (is : IsRow (sign ∷ more) (sign_level sign) row) (O : Operands n (sign_level sign) here lower F U (EitherFit U nodes.bare.Fits) front ufront (Either ufront nodes.bare.front) first ufirst) →
      (x : Operand) → F x → is_bare x ≡ false → Settled O.above x → Settled (single_laws sign more row is O) x
  unfolding single_laws row_over
  single_kept sign more row is O x fits plain settled = once_operand_settled (sign_level sign) n (sign ∷ more) row is.others is.own is.here is.apart_alone (one_of_reads (sign ∷ more) is.distinct) is.leveled O.above lower O.below O.down O.up O.rise O.rises x fits plain settled

  pub single_settled : (sign : Sign) (more : List Sign) (row : ℕ) (is : IsRow (sign ∷ more) (sign_level sign) row) (O : Operands n (sign_level sign) here lower F U (EitherFit U nodes.bare.Fits) front ufront (Either ufront nodes.bare.front) first ufirst) (next : ℕ) → suc (sign_level sign) ≤ next →
      ((x : Operand) → U x → refuses next x ≡ true → Settled O.below x) → ((x : Operand) → F x → refuses next x ≡ true → Settled O.above x) →
      (x : Operand) → GoodFit (EitherFit F (g.row_over (g.single sign more) nodes (operands U ufront)).Fits) (λ y. not (is_bare y)) x → refuses next x ≡ true → Settled (single_laws sign more row is O) x
  unfolding single_laws row_over
  single_settled sign more row is O next tight low high x (inl fits, plain) off = once_operand_settled (sign_level sign) n (sign ∷ more) row is.others is.own is.here is.apart_alone (one_of_reads (sign ∷ more) is.distinct) is.leveled O.above lower O.below O.down O.up O.rise O.rises x fits (not_false (is_bare x) plain) (high x fits off)
  single_settled sign more row is O next tight low high x (inr ((y, (o, z)), ((d, on), (known, fits)), e), plain) off =
      subst (Settled (single_laws sign more row is O)) e (once_node_settled (sign_level sign) n (sign ∷ more) row is.others is.own is.here is.apart_alone (one_of_reads (sign ∷ more) is.distinct) is.leveled O.above lower O.below O.down O.up O.rise O.rises y o z d on known fits
      (low z fits (tail_refuses next (sign_level sign) tight y o z (is.leveled o known) (subst (λ v. refuses next v ≡ true) (sym e) off))))

  -- shifts, where of a `>` behind an operand that leaves them it is known whether it is read with it
  pub shift_row_laws : (O : Operands n (sign_level s.ShiftLeft) here lower F U (EitherFit U nodes.bare.Fits) front ufront (Either ufront nodes.bare.front) first ufirst) →
      ((x : Operand) → F x → leaves (sign_level s.ShiftLeft) x ≡ true → Settled O.above x) → ((x : Operand) → U x → leaves (sign_level s.ShiftLeft) x ≡ true → Settled O.below x) →
      OpenLaws (row_over n inner g.shifts here lower) operand_tokens (EitherFit F (g.row_over g.shifts nodes (operands U ufront)).Fits) (Either front (g.row_over g.shifts nodes (operands U ufront)).front) first (after_operand (sign_level s.ShiftLeft)) (half_operand (sign_level s.ShiftLeft))
  unfolding row_over
  shift_row_laws O decide decide_low = shift_laws n O.above decide lower O.below decide_low O.down O.up O.rise O.rises

  pub shift_settled : (O : Operands n (sign_level s.ShiftLeft) here lower F U (EitherFit U nodes.bare.Fits) front ufront (Either ufront nodes.bare.front) first ufirst)
      (decide : (x : Operand) → F x → leaves (sign_level s.ShiftLeft) x ≡ true → Settled O.above x) (decide_low : (x : Operand) → U x → leaves (sign_level s.ShiftLeft) x ≡ true → Settled O.below x) (next : ℕ) → next < nowhere →
      ((x : Operand) → U x → leaves next x ≡ true → Settled O.below x) → ((x : Operand) → F x → leaves next x ≡ true → Settled O.above x) →
      (x : Operand) → EitherFit F (g.row_over g.shifts nodes (operands U ufront)).Fits x → leaves next x ≡ true → Settled (shift_row_laws O decide decide_low) x
  unfolding shift_row_laws row_over
  shift_settled O decide decide_low next lt low high x (inl fits) left = sh.operand_settled n O.above decide lower O.below decide_low O.down O.up O.rise O.rises x fits (high x fits left)
  shift_settled O decide decide_low next lt low high x (inr ((y, all), ((d, on), some), e)) left =
      subst (Settled (shift_row_laws O decide decide_low)) e (sh.node_settled n O.above decide lower O.below decide_low O.down O.up O.rise O.rises (λ z. leaves next z) low y all d on some (last_leaves next lt y all some.0 (subst (λ z. leaves next z ≡ true) (sym e) left)))

  pub shift_kept : (O : Operands n (sign_level s.ShiftLeft) here lower F U (EitherFit U nodes.bare.Fits) front ufront (Either ufront nodes.bare.front) first ufirst)
      (decide : (x : Operand) → F x → leaves (sign_level s.ShiftLeft) x ≡ true → Settled O.above x) (decide_low : (x : Operand) → U x → leaves (sign_level s.ShiftLeft) x ≡ true → Settled O.below x) →
      (x : Operand) → F x → (is_below operand_height n x && leaves (sign_level s.ShiftLeft) x) ≡ true → (g : Place) → (shift_row_laws O decide decide_low).Fits (x, Some g)
  unfolding shift_row_laws row_over
  shift_kept O decide decide_low x fits on g = sh.operand_kept n O.above decide lower O.below decide_low O.down O.up O.rise O.rises x fits on g

-- comparisons, likewise; their operands begin as any operand does, and `super` alone is never tested or cast
module _ {n : ℕ} (inner : ExprReaders) (nodes : g.ExprNodes) {here lower : Reader Token (Open Operand)} {F U : Operand → Type 0} {front ufront : Front Token} {first : List ℕ} where
  plain_of : (O : Operands n compares here lower F U (EitherFit U nodes.bare.Fits) front ufront (Either ufront nodes.bare.front) first operand_first) → ((x : Operand) → nodes.bare.Fits x → is_bare x ≡ true) → (x : Operand) → EitherFit U nodes.bare.Fits x → is_bare x ≡ false → U x
  plain_of O bare_is x (inl fits) off = fits
  plain_of O bare_is x (inr fits) off = clash (is_bare x) (bare_is x fits) off

  pub comparison_laws : (O : Operands n compares here lower F U (EitherFit U nodes.bare.Fits) front ufront (Either ufront nodes.bare.front) first operand_first) →
      ((x : Operand) → F x → leaves compares x ≡ true → Settled O.above x) → Laws class_of inner.type type_tokens nodes.type.Fits nodes.type.front type_first after_type false →
      ((x : Operand) → nodes.bare.Fits x → is_bare x ≡ true) → ((x : Operand) → U x → is_bare x ≡ false) → ((opens : TypeNode → Bool) (x : Operand) → F x → operand_takes compares opens compares x ≡ true) →
      OpenLaws (row_over n inner g.comparison here lower) operand_tokens (EitherFit F (g.row_over g.comparison nodes (operands U ufront)).Fits) (Either front (g.row_over g.comparison nodes (operands U ufront)).front) first (after_operand compares) (half_operand compares)
  unfolding row_over
  comparison_laws O decide types bare_is plain_is rises = relational_laws n O.above decide types lower O.below O.down O.up O.rise (plain_of O bare_is) (λ x fits. (inl fits, plain_is x fits)) (λ ts f. inl f) rises

  -- an operand alone, read with its half, or left where there is no room for the node of a comparison
  pub comparison_kept : (O : Operands n compares here lower F U (EitherFit U nodes.bare.Fits) front ufront (Either ufront nodes.bare.front) first operand_first)
      (decide : (x : Operand) → F x → leaves compares x ≡ true → Settled O.above x) (types : Laws class_of inner.type type_tokens nodes.type.Fits nodes.type.front type_first after_type false)
      (bare_is : (x : Operand) → nodes.bare.Fits x → is_bare x ≡ true) (plain_is : (x : Operand) → U x → is_bare x ≡ false) (rises : (opens : TypeNode → Bool) (x : Operand) → F x → operand_takes compares opens compares x ≡ true) →
      (x : Operand) → Settled O.above x → ((g : Place) → O.above.Fits (x, Some g)) ⊎ (is_below operand_height n x ≡ false) → Settled (comparison_laws O decide types bare_is plain_is rises) x
  unfolding comparison_laws row_over
  comparison_kept O decide types bare_is plain_is rises x settled (inl known) = re.kept_settled n O.above decide types lower O.below O.down O.up O.rise (plain_of O bare_is) (λ y fits. (inl fits, plain_is y fits)) (λ ts f. inl f) rises x known
  comparison_kept O decide types bare_is plain_is rises x (inl known) (inr none) = re.kept_settled n O.above decide types lower O.below O.down O.up O.rise (plain_of O bare_is) (λ y fits. (inl fits, plain_is y fits)) (λ ts f. inl f) rises x known
  comparison_kept O decide types bare_is plain_is rises x (inr stays) (inr none) =
      re.left_settled n O.above decide types lower O.below O.down O.up O.rise (plain_of O bare_is) (λ y fits. (inl fits, plain_is y fits)) (λ ts f. inl f) rises x stays (ap (λ (b : Bool). b && leaves compares x) none)

  -- a comparison, where its last operand leaves the operator, a test and a cast
  pub comparison_settled : (O : Operands n compares here lower F U (EitherFit U nodes.bare.Fits) front ufront (Either ufront nodes.bare.front) first operand_first)
      (decide : (x : Operand) → F x → leaves compares x ≡ true → Settled O.above x) (types : Laws class_of inner.type type_tokens nodes.type.Fits nodes.type.front type_first after_type false)
      (bare_is : (x : Operand) → nodes.bare.Fits x → is_bare x ≡ true) (plain_is : (x : Operand) → U x → is_bare x ≡ false) (rises : (opens : TypeNode → Bool) (x : Operand) → F x → operand_takes compares opens compares x ≡ true) (next : ℕ) → next < nowhere →
      ((x : Operand) → U x → leaves next x ≡ true → Settled O.below x) → (x : Operand) → (g.row_over g.comparison nodes (operands U ufront)).Fits x → leaves next x ≡ true → Settled (comparison_laws O decide types bare_is plain_is rises) x
  unfolding comparison_laws row_over
  comparison_settled O decide types bare_is plain_is rises next lt low x (inl ((y, (o, z)), ((d, on), (known, fits)), e)) left =
      subst (Settled (comparison_laws O decide types bare_is plain_is rises)) e (re.compared_settled n O.above decide types lower O.below O.down O.up O.rise (plain_of O bare_is) (λ v known. (inl known, plain_is v known)) (λ ts f. inl f) rises (leaves next) low y o z d (inl (on, known)) fits
      (last_leaves next lt y ((o, z) ∷ []) refl (subst (λ v. leaves next v ≡ true) (sym e) left)))
  comparison_settled O decide types bare_is plain_is rises next lt low x (inr (inl ((y, (o, z)), ((d, on), (known, fits)), e))) left =
      subst (Settled (comparison_laws O decide types bare_is plain_is rises)) e (re.compared_settled n O.above decide types lower O.below O.down O.up O.rise (plain_of O bare_is) (λ v known. (inl known, plain_is v known)) (λ ts f. inl f) rises (leaves next) low y o z d (inr (on, known)) fits
      (last_leaves next lt y ((o, z) ∷ []) refl (subst (λ v. leaves next v ≡ true) (sym e) left)))
  comparison_settled O decide types bare_is plain_is rises next lt low x (inr (inr (inl ((y, (place, (bang, of))), fits, e)))) left =
      subst (Settled (comparison_laws O decide types bare_is plain_is rises)) e (re.test_settled n O.above decide types lower O.below O.down O.up O.rise (plain_of O bare_is) (λ v known. (inl known, plain_is v known)) (λ ts f. inl f) rises y place bang of ((y, (place, (bang, of))), fits, refl))
  comparison_settled O decide types bare_is plain_is rises next lt low x (inr (inr (inr ((y, (place, of)), fits, e)))) left =
      subst (Settled (comparison_laws O decide types bare_is plain_is rises)) e (re.cast_settled n O.above decide types lower O.below O.down O.up O.rise (plain_of O bare_is) (λ v known. (inl known, plain_is v known)) (λ ts f. inl f) rises y place of ((y, (place, of)), fits, refl))
