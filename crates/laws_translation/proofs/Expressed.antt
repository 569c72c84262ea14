-- The forms of expressions go alike where those of their parts do.
use Rattle.std.proofs.Common.{◌≡◌, refl, sym, ap, ◌∙◌, ℕ, zero, suc, List, [], ◌∷◌, ◌++◌, map, Option, None, Some, Bool, true, false}
use Rattle.std.proofs.lemmas.List.{map-append}
use Rattle.std.specs.Prelude.{codes}
use Rattle.dart_base.specs.declared.place.Place.{Place}
use Rattle.dart_tree.specs.declared.identifier.Identifier.{Identifier}
use Rattle.dart_tree.specs.declared.identifier.DotName.{DotName}
use Rattle.dart_tree.specs.declared.operator.Operator.{Operator}
use Rattle.dart_tree.specs.declared.operator.Operator.TheVariants as o
use Rattle.dart_tree.specs.declared.expression.Atom.{Atom}
use Rattle.dart_tree.specs.declared.expression.Atom.TheVariants as a
use Rattle.dart_tree.specs.declared.expression.Creation.{Creation}
use Rattle.dart_tree.specs.declared.expression.Creation.TheVariants as n
use Rattle.dart_tree.specs.UnitView.{maybe}
use Rattle.dart_tree.specs.Types as y
use Rattle.dart_tree.specs.Tree as t
use Rattle.dart_ir.specs.Ty.{dynamic, void, bottom, class, parameter, function}
use Rattle.dart_ir.specs.declared.class.Role.TheVariants as role
use Rattle.dart_ir.specs.declared.kind.SiteKind.TheVariants as kind
use Rattle.dart_ir.specs.declared.kind.ThrowKind.TheVariants.{NoSuchMethodError, MalformedTypeError}
use Rattle.dart_ir.specs.declared.value.Value.TheVariants as v
use Rattle.core_program.specs.Core as c
use Rattle.laws_translation.specs.LinedLeaf as leaf
use Rattle.laws_translation.specs.Lined as lined
use Rattle.dart_erase.specs.Erased as erased
use Rattle.translation.specs.Surroundings.{Text, Ty, Core, Meaning}
use Rattle.translation.specs.Surroundings as m
use Rattle.translation.specs.Walk.{Asked, State, Walk, went, on, bad_word}
use Rattle.translation.specs.Strings.{Part, units, shown}
use Rattle.translation.specs.Types.{PlacedName, word_of, option_word, tys, Typed, well_formed, malformed, meaning_of, fitting}
use Rattle.translation.specs.References as r
use Rattle.translation.specs.References.{Arguments, by_place, Reference, evaluated, named, member, item, super_member, super_item}
use Rattle.translation.specs.Expressions as e
use Rattle.laws_translation.proofs.Kept as k
use Rattle.laws_translation.proofs.Kept.{line, Goes, ends}
use Rattle.laws_translation.proofs.Ends.{on_ends, done, stop, checked_goes, tested_goes, with_literal_goes, cores_map}
use Rattle.laws_translation.proofs.TypesSame.{word_same, option_lined, option_same, last_word, meaning_same}
use Rattle.laws_translation.proofs.Referred.{block_kept, row_kept, send_kept, raised_kept, in_let_goes, identifier_kept, read_goes, called_goes, assigned_goes, compound_goes, stepped_goes}

-- ---- atoms

instance_goes : {A : Type 0} (f : A → A) (b : Bool) (place : Place) (w' w : Walk A) → Goes f w' w → Goes f (e.instance_or b (line place) w') (e.instance_or b place w)
instance_goes f true place w' w h s = h s
instance_goes f false place w' w h s = stop _ _ (bad_word place) refl

pub with_instance_goes : {A : Type 0} (f : A → A) (place : Place) (w' w : Walk A) → Goes f w' w → Goes f (e.with_instance (line place) w') (e.with_instance place w)
with_instance_goes f place w' w h s = instance_goes f s.inside.has_instance place w' w h s

pub this_goes : (place : Place) → Goes k.core (e.this_form (line place)) (e.this_form place)
unfolding k.core
this_goes place s = with_instance_goes k.core place (went (r.this (line place))) (went (r.this place)) (λ s. done _ _ (r.this place) _ s refl refl) s

pub value_goes : (w' w : Walk Core) → Goes k.core w' w → Goes k.reference (e.as_value w') (e.as_value w)
value_goes w' w h s = on_ends _ _ _ _ _ _ (h s) (λ form s. done _ _ (evaluated form) _ s refl refl)

pub atom_goes : (x : Atom) → Goes k.reference (e.atom_reference (leaf.atom x)) (e.atom_reference x)
unfolding k.core
atom_goes (a.This place) s = value_goes (e.this_form (line place)) (e.this_form place) (this_goes place) s
atom_goes (a.Null place) s = done _ _ (evaluated (r.null place)) _ s refl refl
atom_goes (a.True place) s = done _ _ (evaluated (r.truth place true)) _ s refl refl
atom_goes (a.False place) s = done _ _ (evaluated (r.truth place false)) _ s refl refl
atom_goes (a.Integer place text) s = done _ _ (evaluated (r.constant place (e.integer_of text))) _ s refl refl
atom_goes (a.Name name) s = done _ _ (r.identifier (word_of name) s) _ s (identifier_kept _ (word_of name) s (word_same name)) refl

pub no_target_goes : (p' p : Place) → p' ≡ line p → Goes k.reference (e.no_target p') (e.no_target p)
unfolding k.core
no_target_goes p' p h s = done _ _ (evaluated (r.null p)) _ s (ap (λ (x : Place). evaluated (r.null x)) h) refl

-- ---- strings

literal_goes : (p' p : Place) (text : Text) → p' ≡ line p → Goes k.core (e.literal p' text) (e.literal p text)
unfolding k.core
literal_goes p' p text h s = on_ends _ _ _ _ _ _ (with_literal_goes text s) (λ n s. done _ _ (r.constant p (v.Literal n)) _ s (ap (λ (x : Place). r.constant x (v.Literal n)) h) refl)

pub pending_goes : (p' p : Place) (text : Text) → p' ≡ line p → Goes (map k.core) (e.pending_literal p' text) (e.pending_literal p text)
pending_goes p' p [] h s = done _ _ [] _ s refl refl
pending_goes p' p (first ∷ rest) h s = on_ends _ _ _ _ _ _ (literal_goes p' p (first ∷ rest) h s) (λ form s. done _ _ (form ∷ []) _ s refl refl)

pub to_string_kept : (p' p : Place) (form : Core) → p' ≡ line p → e.to_string p' (k.core form) ≡ k.core (e.to_string p form)
to_string_kept p' p form h = (λ i. e.to_string (h i) (k.core form)) ∙ send_kept p form (codes "toString") (by_place [])

shown_if_goes : (b : Bool) (place : Place) (text : Text) → Goes k.core (e.shown_if b (line place) text) (e.shown_if b place text)
shown_if_goes true place text s = this_goes place s
shown_if_goes false place text s = read_goes _ place _ (r.identifier (record { place = place; text = text }) s) refl (identifier_kept _ (record { place = place; text = text }) s refl) s

abbrev pub joined : e.Joined → e.Joined
joined x = record { forms = map k.core x.forms; pending = x.pending }

pub more_kept : (before' : List Core) (before : List Core) (f' form : Core) (x : List Core) → before' ≡ map k.core before → f' ≡ k.core form →
    before' ++ f' ∷ map k.core x ≡ map k.core (before ++ form ∷ x)
more_kept before' before f' form x h l = (λ i. h i ++ l i ∷ map k.core x) ∙ sym (map-append k.core before (form ∷ x))

pub join_goes : (p' p : Place) (at : Place) (parts : List Part) (pending : Text) → p' ≡ line p → Goes joined (e.join_parts p' (line at) parts pending) (e.join_parts p at parts pending)
join_goes p' p at [] pending h s = done _ _ (record { forms = []; pending = pending }) _ s refl refl
join_goes p' p at (units text ∷ parts) pending h s = join_goes p' p at parts (pending ++ text) h s
join_goes p' p at (shown text ∷ parts) pending h s = on_ends _ _ _ _ _ _ (pending_goes p' p pending h s)
    (λ before s. on_ends _ _ _ _ _ _ (shown_if_goes (e.is_this text) at text s)
    (λ form s. on_ends _ _ _ _ _ _ (join_goes p' p at parts [] h s)
    (λ more s. done _ _ (e.joined_more before (e.to_string p form) more) _ s
    (ap (λ (x : List Core). record { forms = x; pending = more.pending }) (more_kept _ before _ (e.to_string p form) more.forms refl (to_string_kept p' p form h))) refl)))

pub string_goes : (p' p : Place) (o : Option Text) (w' w : Walk (List Core)) → p' ≡ line p → Goes (map k.core) w' w → Goes k.core (e.string_form p' o w') (e.string_form p o w)
string_goes p' p (Some text) w' w h l s = literal_goes p' p text h s
string_goes p' p None w' w h l s = on_ends _ _ _ _ _ _ (l s) (λ forms s. done _ _ (r.row p c.join (by_place forms)) _ s
    ((λ i. r.row (h i) c.join (by_place (map k.core forms))) ∙ row_kept p c.join (by_place forms)) refl)

-- ---- conditions

choice_at : (p' p : Place) (test first second : Core) → p' ≡ line p → e.choice p' (k.core test) (k.core first) (k.core second) ≡ k.core (e.choice p test first second)
unfolding k.core
choice_at p' p test first second h = ap (λ (x : Place). e.choice x (k.core test) (k.core first) (k.core second)) h

truth_at : (p' p : Place) (b : Bool) → p' ≡ line p → r.truth p' b ≡ k.core (r.truth p b)
unfolding k.core
truth_at p' p b h = ap (λ (x : Place). r.truth x b) h

pub negated_goes : (p' p a' a : Place) (form : Core) → p' ≡ line p → a' ≡ line a → Goes k.core (e.negated p' a' (k.core form)) (e.negated p a form)
negated_goes p' p a' a form h l s = on_ends _ _ _ _ _ _ (tested_goes a' a form l s) (λ test s. done _ _ (e.choice p test (r.truth p false) (r.truth p true)) _ s
    ((λ i. e.choice p' (k.core test) (truth_at p' p false h i) (truth_at p' p true h i)) ∙ choice_at p' p test (r.truth p false) (r.truth p true) h) refl)

pub conditional_goes : (p' p : Place) (c' c a' a b' b : Walk Core) → p' ≡ line p → Goes k.core c' c → Goes k.core a' a → Goes k.core b' b →
    Goes k.core (e.conditional p' c' a' b') (e.conditional p c a b)
conditional_goes p' p c' c a' a b' b h l m n s = on_ends _ _ _ _ _ _ (l s) (λ form s. on_ends _ _ _ _ _ _ (tested_goes p' p form h s)
    (λ test s. on_ends _ _ _ _ _ _ (m s) (λ one s. on_ends _ _ _ _ _ _ (n s)
    (λ other s. done _ _ (e.choice p test one other) _ s (choice_at p' p test one other h) refl))))

both_goes : (p' p : Place) (form : Core) (a' a : Place) (w' w : Walk Core) → p' ≡ line p → a' ≡ line a → Goes k.core w' w → Goes k.core (e.both p' (k.core form) a' w') (e.both p form a w)
both_goes p' p form a' a w' w h l n s = on_ends _ _ _ _ _ _ (tested_goes p' p form h s) (λ test s. on_ends _ _ _ _ _ _ (n s)
    (λ second s. on_ends _ _ _ _ _ _ (tested_goes a' a second l s) (λ inner s. done _ _ (e.choice p test (e.choice p inner (r.truth p true) (r.truth p false)) (r.truth p false)) _ s
    ((λ i. e.choice p' (k.core test) (((λ j. e.choice p' (k.core inner) (truth_at p' p true h j) (truth_at p' p false h j)) ∙ choice_at p' p inner (r.truth p true) (r.truth p false) h) i) (truth_at p' p false h i)) ∙
    choice_at p' p test (e.choice p inner (r.truth p true) (r.truth p false)) (r.truth p false) h) refl)))

either_goes : (p' p : Place) (form : Core) (a' a : Place) (w' w : Walk Core) → p' ≡ line p → a' ≡ line a → Goes k.core w' w → Goes k.core (e.either p' (k.core form) a' w') (e.either p form a w)
either_goes p' p form a' a w' w h l n s = on_ends _ _ _ _ _ _ (tested_goes p' p form h s) (λ test s. on_ends _ _ _ _ _ _ (n s)
    (λ second s. on_ends _ _ _ _ _ _ (tested_goes a' a second l s) (λ inner s. done _ _ (e.choice p test (r.truth p true) (e.choice p inner (r.truth p true) (r.truth p false))) _ s
    ((λ i. e.choice p' (k.core test) (truth_at p' p true h i) (((λ j. e.choice p' (k.core inner) (truth_at p' p true h j) (truth_at p' p false h j)) ∙ choice_at p' p inner (r.truth p true) (r.truth p false) h) i)) ∙
    choice_at p' p test (r.truth p true) (e.choice p inner (r.truth p true) (r.truth p false)) h) refl)))

-- ---- operators

pub operation_same : (x : Operator) → e.operation (leaf.operator x) ≡ e.operation x
operation_same (o.Sign place sign) = refl
operation_same (o.ShiftRight first second) = refl
operation_same (o.ShiftRightAssign first second) = refl

pub prefix_same : (x : Operator) → e.prefix (leaf.operator x) ≡ e.prefix x
prefix_same (o.Sign place sign) = refl
prefix_same (o.ShiftRight first second) = refl
prefix_same (o.ShiftRightAssign first second) = refl

pub compound_same : (x : Operator) → e.compound_operator (leaf.operator x) ≡ e.compound_operator x
compound_same (o.Sign place sign) = refl
compound_same (o.ShiftRight first second) = refl
compound_same (o.ShiftRightAssign first second) = refl

pub option_compound_same : (x : Option Operator) → e.option_compound (maybe leaf.operator x) ≡ e.option_compound x
option_compound_same None = refl
option_compound_same (Some x) = compound_same x

equal_at : (p' p : Place) (first second : Core) → p' ≡ line p → e.equal p' (k.core first) (k.core second) ≡ k.core (e.equal p first second)
unfolding k.core
equal_at p' p first second h = ap (λ (x : Place). e.equal x (k.core first) (k.core second)) h

pub row_at : (p' p : Place) (job : c.Job Text) (all : Arguments) → p' ≡ line p → r.row p' job (k.arguments all) ≡ k.core (r.row p job all)
row_at p' p job all h = (λ i. r.row (h i) job (k.arguments all)) ∙ row_kept p job all

pub block_at : (p' p : Place) (forms : List Core) → p' ≡ line p → r.block p' (map k.core forms) ≡ k.core (r.block p forms)
block_at p' p forms h = (λ i. r.block (h i) (map k.core forms)) ∙ block_kept p forms

pub binary_goes : (p' p : Place) (o' o : e.Operation) (form : Core) (a' a : Place) (w' w : Walk Core) → p' ≡ line p → o' ≡ o → a' ≡ line a → Goes k.core w' w →
    Goes k.core (e.binary p' o' (k.core form) a' w') (e.binary p o form a w)
binary_goes p' p o' o form a' a w' w h d l n s = (λ i. e.binary p' (d i) (k.core form) a' w' (k.state s)) ∙ by_operation o where
  by_operation : (o : e.Operation) → e.binary p' o (k.core form) a' w' (k.state s) ≡ ends k.core (e.binary p o form a w s)
  by_operation e.conjunction = both_goes p' p form a' a w' w h l n s
  by_operation e.disjunction = either_goes p' p form a' a w' w h l n s
  by_operation e.equality = on_ends _ _ _ _ _ _ (n s) (λ second s. done _ _ (e.equal p form second) _ s (equal_at p' p form second h) refl)
  by_operation e.inequality = on_ends _ _ _ _ _ _ (n s) (λ second s. (λ i. e.negated p' p' (equal_at p' p form second h i) (k.state s)) ∙ negated_goes p' p p' p (e.equal p form second) h h s)
  by_operation (e.method name) = on_ends _ _ _ _ _ _ (n s) (λ second s. done _ _ (r.send p form name (by_place (second ∷ []))) _ s
      (row_at p' p (c.send name) (by_place (form ∷ second ∷ [])) h) refl)

null_at : (p' p : Place) → p' ≡ line p → r.null p' ≡ k.core (r.null p)
unfolding k.core
null_at p' p h = ap r.null h

super_equal_goes : (p' p : Place) (form : Core) → p' ≡ line p → Goes k.core (e.super_equal p' (k.core form)) (e.super_equal p form)
super_equal_goes p' p form h s = in_let_goes p' p form
    (λ x st. went (e.choice p' (e.equal p' x (r.null p')) (r.truth p' false) (r.row p' (c.super role.Method (codes "==")) (by_place (x ∷ [])))) st)
    (λ x st. went (e.choice p (e.equal p x (r.null p)) (r.truth p false) (r.row p (c.super role.Method (codes "==")) (by_place (x ∷ [])))) st) h
    (λ x s. done _ _ _ _ s ((λ i. e.choice p' (e.equal p' (k.core x) (null_at p' p h i)) (truth_at p' p false h i) (row_at p' p (c.super role.Method (codes "==")) (by_place (x ∷ [])) h i)) ∙
    (λ i. e.choice p' (equal_at p' p x (r.null p) h i) (k.core (r.truth p false)) (k.core (r.row p (c.super role.Method (codes "==")) (by_place (x ∷ []))))) ∙
    choice_at p' p (e.equal p x (r.null p)) (r.truth p false) (r.row p (c.super role.Method (codes "==")) (by_place (x ∷ []))) h) refl) s

pub super_binary_goes : (place : Place) (o' o : e.Operation) (w' w : Walk Core) → o' ≡ o → Goes k.core w' w → Goes k.core (e.super_binary (line place) o' w') (e.super_binary place o w)
super_binary_goes place o' o w' w d n s = (λ i. e.super_binary (line place) (d i) w' (k.state s)) ∙ by_operation o where
  by_operation : (o : e.Operation) → e.super_binary (line place) o w' (k.state s) ≡ ends k.core (e.super_binary place o w s)
  by_operation e.conjunction = n s
  by_operation e.disjunction = n s
  by_operation e.equality = on_ends _ _ _ _ _ _ (n s) (λ form s. super_equal_goes _ place form refl s)
  by_operation e.inequality = on_ends _ _ _ _ _ _ (n s) (λ form s. on_ends _ _ _ _ _ _ (super_equal_goes _ place form refl s) (λ form s. negated_goes _ place _ place form refl refl s))
  by_operation (e.method name) = on_ends _ _ _ _ _ _ (n s) (λ form s. done _ _ (r.row place (c.super role.Method name) (by_place (form ∷ []))) _ s (row_kept place (c.super role.Method name) (by_place (form ∷ []))) refl)

one_at : (p' p : Place) → p' ≡ line p → e.one p' ≡ k.core (e.one p)
unfolding k.core
one_at p' p h = ap e.one h

prefixed_ends : (x : e.Prefix) (p' p a' a : Place) (w' w : Walk Core) (t' t : Walk Reference) → p' ≡ line p → a' ≡ line a → Goes k.core w' w → Goes k.reference t' t →
    Goes k.core (e.prefixed x p' a' w' t') (e.prefixed x p a w t)
prefixed_ends e.negation p' p a' a w' w t' t h l n d s = on_ends _ _ _ _ _ _ (n s) (λ form s. negated_goes p' p a' a form h l s)
prefixed_ends (e.step name) p' p a' a w' w t' t h l n d s = on_ends _ _ _ _ _ _ (d s) (λ x s. compound_goes p' p name (e.went_one p') (e.went_one p) x h (λ s. done _ _ (e.one p) _ s (one_at p' p h) refl) s)
prefixed_ends (e.unary name) p' p a' a w' w t' t h l n d s = on_ends _ _ _ _ _ _ (n s) (λ form s. done _ _ (r.send p form name (by_place [])) _ s (row_at p' p (c.send name) (by_place (form ∷ [])) h) refl)

abbrev pub option_line : Option Place → Option Place
option_line None = None
option_line (Some place) = Some (line place)

prefixed_on_ends : (o : Option Place) (x : e.Prefix) (p' p a' a : Place) (w' w : Walk Core) (t' t : Walk Reference) → p' ≡ line p → a' ≡ line a → Goes k.core w' w → Goes k.reference t' t →
    Goes k.core (e.prefixed_on (option_line o) x p' a' w' t') (e.prefixed_on o x p a w t)
prefixed_on_ends None x p' p a' a w' w t' t h l n d s = prefixed_ends x p' p a' a w' w t' t h l n d s
prefixed_on_ends (Some word) x p' p a' a w' w t' t h l n d s = with_instance_goes k.core word (went (e.super_prefixed p' (e.prefix_name x))) (went (e.super_prefixed p (e.prefix_name x)))
    (λ s. done _ _ (e.super_prefixed p (e.prefix_name x)) _ s (row_at p' p (c.super role.Method (e.prefix_name x)) (by_place []) h) refl) s

pub prefixed_goes : (o' o : Option Place) (x' x : e.Prefix) (p' p a' a : Place) (w' w : Walk Core) (t' t : Walk Reference) → o' ≡ option_line o → x' ≡ x → p' ≡ line p → a' ≡ line a → Goes k.core w' w → Goes k.reference t' t →
    Goes k.core (e.prefixed_on o' x' p' a' w' t') (e.prefixed_on o x p a w t)
prefixed_goes o' o x' x p' p a' a w' w t' t b q h l n d s = (λ i. e.prefixed_on (b i) (q i) p' a' w' t' (k.state s)) ∙ prefixed_on_ends o x p' p a' a w' w t' t h l n d s

pub postfixed_goes : (x : Option Operator) (p' p : Place) (y : Reference) → p' ≡ line p → Goes k.core (e.postfixed (maybe leaf.operator x) p' (k.reference y)) (e.postfixed x p y)
postfixed_goes None p' p y h s = read_goes p' p _ y h refl s
postfixed_goes (Some x) p' p y h s = (λ i. r.stepped p' (e.prefix_name (prefix_same x i)) (e.one p') (k.reference y) (k.state s)) ∙
    stepped_goes p' p (e.prefix_name (e.prefix x)) _ (e.one p) y h (one_at p' p h) s

super_primary_same : (x : t.Primary) → e.super_of_primary (lined.primary (erased.primary x)) ≡ option_line (e.super_of_primary x)
unfolding erased.primary lined.primary
super_primary_same (t.bare_super word) = refl
super_primary_same (t.super_access word next) = refl
super_primary_same (t.atom atom) = refl
super_primary_same (t.text all) = refl
super_primary_same (t.list_literal types opening all comma closing) = refl
super_primary_same (t.map_literal types opening all comma closing) = refl
super_primary_same (t.new_object creation of constructor given) = refl
super_primary_same (t.function_literal given inner) = refl
super_primary_same (t.parenthesized opening given closing) = refl

pub super_same : (x : t.Operand) → e.super_of (lined.operand (erased.operand x)) ≡ option_line (e.super_of x)
unfolding erased.operand lined.operand
super_same (t.primary inner) = super_primary_same inner
super_same (t.conditional condition question one colon other) = refl
super_same (t.binary base more) = refl
super_same (t.is_type base word bang of) = refl
super_same (t.as_type base word of) = refl
super_same (t.prefix operator base) = refl
super_same (t.postfix base more operator) = refl

pub chained_goes : (o' o : Option Place) (w' w : Walk Core) (m' m : Core → Walk Core) (b' b : Place → Walk Core) → o' ≡ option_line o → Goes k.core w' w →
    ((form : Core) → Goes k.core (m' (k.core form)) (m form)) → ((place : Place) → Goes k.core (b' (line place)) (b place)) →
    Goes k.core (e.chained o' w' m' b') (e.chained o w m b)
chained_goes o' o w' w m' m b' b h l n d s = (λ i. e.chained (h i) w' m' b' (k.state s)) ∙ by_option o where
  by_option : (o : Option Place) → e.chained (option_line o) w' m' b' (k.state s) ≡ ends k.core (e.chained o w m b s)
  by_option None = on_ends _ _ _ _ _ _ (l s) (λ form s. n form s)
  by_option (Some word) = d word s

-- ---- assignment and selectors

pub assigning_goes : (o' o : Option Text) (p' p a' a : Place) (v' v : Walk Core) (x : Reference) → o' ≡ o → p' ≡ line p → a' ≡ line a → Goes k.core v' v →
    Goes k.core (e.assigning o' p' a' v' (k.reference x)) (e.assigning o p a v x)
assigning_goes o' o p' p a' a v' v x d h l n s = (λ i. e.assigning (d i) p' a' v' (k.reference x) (k.state s)) ∙ by_operator o where
  by_operator : (o : Option Text) → e.assigning o p' a' v' (k.reference x) (k.state s) ≡ ends k.core (e.assigning o p a v x s)
  by_operator None = assigned_goes p' p a' a v' v x h l n s
  by_operator (Some operator) = compound_goes p' p operator v' v x h n s

pub indexed_goes : (w' w : Walk Core) (form : Core) → Goes k.core w' w → Goes k.reference (e.indexed w' (k.core form)) (e.indexed w form)
indexed_goes w' w form n s = on_ends _ _ _ _ _ _ (n s) (λ at s. done _ _ (item form at) _ s refl refl)

pub call_of_goes : (p' p : Place) (w' w : Walk Arguments) (x : Reference) → p' ≡ line p → Goes k.arguments w' w → Goes k.reference (e.call_of p' w' (k.reference x)) (e.call_of p w x)
call_of_goes p' p w' w x h n s = on_ends _ _ _ _ _ _ (n s) (λ all s. on_ends _ _ _ _ _ _ (called_goes p' p x all h s) (λ form s. done _ _ (evaluated form) _ s refl refl))

pub cascaded_goes : (b' b : Bool) (p' p : Place) (w' w : Core → Walk (List Core)) (form : Core) → b' ≡ b → p' ≡ line p → ((x : Core) → Goes (map k.core) (w' (k.core x)) (w x)) →
    Goes k.core (e.cascaded b' p' w' (k.core form)) (e.cascaded b p w form)
cascaded_goes b' b p' p w' w form d h n s = (λ i. e.cascaded (d i) p' w' (k.core form) (k.state s)) ∙ by_test b where
  by_test : (b : Bool) → e.cascaded b p' w' (k.core form) (k.state s) ≡ ends k.core (e.cascaded b p w form s)
  by_test false = done _ _ form _ s refl refl
  by_test true = in_let_goes p' p form (λ x st. on (w' x st) (λ forms st. went (r.block p' (forms ++ x ∷ [])) st)) (λ x st. on (w x st) (λ forms st. went (r.block p (forms ++ x ∷ [])) st)) h
      (λ x s. on_ends _ _ _ _ _ _ (n x s) (λ forms s. done _ _ (r.block p (forms ++ x ∷ [])) _ s
      ((λ i. r.block p' (sym (map-append k.core forms (x ∷ [])) i)) ∙ block_at p' p (forms ++ x ∷ []) h) refl)) s

pub has_cascades_same : (x : t.Cascades) → e.has_cascades (lined.cascades (erased.cascades x)) ≡ e.has_cascades x
unfolding erased.cascades lined.cascades
has_cascades_same t.no_cascades = refl
has_cascades_same (t.cascade dots more term rest) = refl

-- ---- types, lists, maps and objects

is_kept : (p' p : Place) (of : Typed) (form : Core) → p' ≡ line p → e.is_form p' of (k.core form) ≡ k.core (e.is_form p of form)
unfolding k.core
is_kept p' p (well_formed of) form h = ap (λ (x : Place). c.at x (c.is_type (k.core form) of)) h
is_kept p' p (malformed name) form h = (λ i. r.raised_behind (h i) (k.core form ∷ []) MalformedTypeError name false) ∙ raised_kept p (form ∷ []) MalformedTypeError name false

pub cast_kept : (p' p : Place) (of : Typed) (form : Core) → p' ≡ line p → e.cast p' of (k.core form) ≡ k.core (e.cast p of form)
unfolding k.core
cast_kept p' p (well_formed of) form h = ap (λ (x : Place). c.at x (c.as_type (k.core form) of)) h
cast_kept p' p (malformed name) form h = (λ i. r.raised_behind (h i) (k.core form ∷ []) MalformedTypeError name false) ∙ raised_kept p (form ∷ []) MalformedTypeError name false

pub type_tested_goes : (p' p : Place) (bang : Option Place) (of : Typed) (form : Core) → p' ≡ line p → Goes k.core (e.type_tested p' (maybe line bang) of (k.core form)) (e.type_tested p bang of form)
type_tested_goes p' p None of form h s = done _ _ (e.is_form p of form) _ s (is_kept p' p of form h) refl
type_tested_goes p' p (Some bang) of form h s = (λ i. e.negated p' p' (is_kept p' p of form h i) (k.state s)) ∙ negated_goes p' p p' p (e.is_form p of form) h h s

pub asked_at_kept : (n : ℕ) (ts : List Ty) → e.asked_at n ts ≡ k.asked (e.asked_at n ts)
asked_at_kept n [] = refl
asked_at_kept zero (of ∷ more) = refl
asked_at_kept (suc n) (of ∷ more) = asked_at_kept n more

pub element_goes : (q' q : Asked) (a' a : Place) (w' w : Walk Core) → q' ≡ k.asked q → a' ≡ line a → Goes k.core w' w → Goes k.core (e.element q' a' w') (e.element q a w)
element_goes q' q a' a w' w d h n s = on_ends _ _ _ _ _ _ (n s) (λ form s. checked_goes kind.Element a' a q' q form h d s)

pub list_kept : (p' p : Place) (ts : List Ty) (forms : List Core) → p' ≡ line p → e.list_form p' ts (map k.core forms) ≡ k.core (e.list_form p ts forms)
unfolding k.core k.cores
list_kept p' p ts forms h = (λ i. e.list_form (h i) ts (map k.core forms)) ∙ ap (λ (x : c.Cores Text). c.at (line p) (c.list (fitting 1 ts) x)) (cores_map forms)

pub put_kept : (p' p : Place) (map_of key entry : Core) → p' ≡ line p → e.put p' (k.core map_of) (k.core key) (k.core entry) ≡ k.core (e.put p map_of key entry)
put_kept p' p map_of key entry h = row_at p' p (c.send (codes "[]=")) (by_place (map_of ∷ key ∷ entry ∷ [])) h

new_map_kept : (p' p : Place) (ts : List Ty) (s : State) → p' ≡ line p → e.new_map p' ts (k.state s) ≡ k.core (e.new_map p ts s)
unfolding k.core
new_map_kept p' p ts s h = ap (λ (x : Place). e.new_map x ts s) h

pub map_goes : (p' p : Place) (ts : List Ty) (w' w : Core → Walk (List Core)) → p' ≡ line p → ((x : Core) → Goes (map k.core) (w' (k.core x)) (w x)) →
    Goes k.core (e.map_form p' ts w') (e.map_form p ts w)
map_goes p' p ts w' w h n s = (λ i. r.in_let p' (new_map_kept p' p ts s h i) (λ x st. on (w' x st) (λ forms st. went (r.block p' (forms ++ x ∷ [])) st)) (k.state s)) ∙
    in_let_goes p' p (e.new_map p ts s) (λ x st. on (w' x st) (λ forms st. went (r.block p' (forms ++ x ∷ [])) st)) (λ x st. on (w x st) (λ forms st. went (r.block p (forms ++ x ∷ [])) st)) h
    (λ x s. on_ends _ _ _ _ _ _ (n x s) (λ forms s. done _ _ (r.block p (forms ++ x ∷ [])) _ s
    ((λ i. r.block p' (sym (map-append k.core forms (x ∷ [])) i)) ∙ block_at p' p (forms ++ x ∷ []) h) refl)) s

abbrev lined_creating : e.Creating → e.Creating
lined_creating x = record { node = leaf.type_node x.node; id = option_lined x.id }

creating_as_same : (m : Meaning) (name : Identifier) (dot : DotName) →
    e.creating_as m (leaf.type_node (y.named_type name (Some dot) y.no_types)) (leaf.type_node (y.named_type name None y.no_types)) (word_of (leaf.identifier dot.name)) ≡
    lined_creating (e.creating_as m (y.named_type name (Some dot) y.no_types) (y.named_type name None y.no_types) (word_of dot.name))
creating_as_same m.prefix name dot = refl
creating_as_same (m.class n) name dot = λ i. record { node = leaf.type_node (y.named_type name None y.no_types); id = Some (word_same dot.name i) }
creating_as_same (m.alias n) name dot = λ i. record { node = leaf.type_node (y.named_type name None y.no_types); id = Some (word_same dot.name i) }
creating_as_same (m.type_parameter n) name dot = λ i. record { node = leaf.type_node (y.named_type name None y.no_types); id = Some (word_same dot.name i) }
creating_as_same (m.function n) name dot = λ i. record { node = leaf.type_node (y.named_type name None y.no_types); id = Some (word_same dot.name i) }
creating_as_same (m.variable n b) name dot = λ i. record { node = leaf.type_node (y.named_type name None y.no_types); id = Some (word_same dot.name i) }
creating_as_same (m.accessors g q) name dot = λ i. record { node = leaf.type_node (y.named_type name None y.no_types); id = Some (word_same dot.name i) }
creating_as_same m.member name dot = λ i. record { node = leaf.type_node (y.named_type name None y.no_types); id = Some (word_same dot.name i) }
creating_as_same m.ambiguous name dot = λ i. record { node = leaf.type_node (y.named_type name None y.no_types); id = Some (word_same dot.name i) }
creating_as_same m.unknown name dot = λ i. record { node = leaf.type_node (y.named_type name None y.no_types); id = Some (word_same dot.name i) }

creating_plain : (node : y.TypeNode) (o : Option DotName) →
    record { node = leaf.type_node node; id = option_word (maybe leaf.dot_name o) } ≡ lined_creating (record { node = node; id = option_word o })
creating_plain node o = λ i. record { node = leaf.type_node node; id = option_same o i }

creating_same : (s : State) (node : y.TypeNode) (o : Option DotName) → e.creating (k.state s) (leaf.type_node node) (maybe leaf.dot_name o) ≡ lined_creating (e.creating s node o)
creating_same s (y.dynamic_type place) o = creating_plain (y.dynamic_type place) o
creating_same s (y.named_type name None given) o = creating_plain (y.named_type name None given) o
creating_same s (y.named_type name (Some dot) (y.listed_types opening types closing)) o = creating_plain (y.named_type name (Some dot) (y.listed_types opening types closing)) o
creating_same s (y.named_type name (Some dot) y.no_types) (Some x) = creating_plain (y.named_type name (Some dot) y.no_types) (Some x)
creating_same s (y.named_type name (Some dot) y.no_types) None =
    (λ i. e.creating_as (meaning_of (k.state s) (word_same name i).text) (leaf.type_node (y.named_type name (Some dot) y.no_types)) (leaf.type_node (y.named_type name None y.no_types)) (word_of (leaf.identifier dot.name))) ∙
    (λ i. e.creating_as (meaning_same s (word_of name).text i) (leaf.type_node (y.named_type name (Some dot) y.no_types)) (leaf.type_node (y.named_type name None y.no_types)) (word_of (leaf.identifier dot.name))) ∙
    creating_as_same (meaning_of s (word_of name).text) name dot

pub creating_node : (s : State) (node : y.TypeNode) (o : Option DotName) → (e.creating (k.state s) (leaf.type_node node) (maybe leaf.dot_name o)).node ≡ leaf.type_node (e.creating s node o).node
creating_node s node o = ap (λ (x : e.Creating). x.node) (creating_same s node o)

pub creating_id : (s : State) (node : y.TypeNode) (o : Option DotName) → (e.creating (k.state s) (leaf.type_node node) (maybe leaf.dot_name o)).id ≡ option_lined (e.creating s node o).id
creating_id s node o = ap (λ (x : e.Creating). x.id) (creating_same s node o)

type_name_lined : (s : State) (node : y.TypeNode) → e.type_name (k.state s) (leaf.type_node node) ≡ e.type_name s node
type_name_lined s (y.dynamic_type place) = refl
type_name_lined s (y.named_type name dot given) = ap (λ (w : PlacedName). r.own_name w s) (last_word name dot)

pub type_name_same : (s : State) (node' node : y.TypeNode) → node' ≡ leaf.type_node node → e.type_name (k.state s) node' ≡ e.type_name s node
type_name_same s node' node h = ap (e.type_name (k.state s)) h ∙ type_name_lined s node

id_same : (o : Option PlacedName) (s : State) → e.id_text (option_lined o) (k.state s) ≡ e.id_text o s
id_same None s = refl
id_same (Some id) s = refl

missing_same : (o : Option PlacedName) (name : Text) (s : State) → e.missing_name (option_lined o) name (k.state s) ≡ e.missing_name o name s
missing_same None name s = refl
missing_same (Some id) name s = refl

bound_if_goes : (b : Bool) (p' p : Place) (of : Ty) (form : Core) → p' ≡ line p → Goes k.core (e.bound_if b p' of (k.core form)) (e.bound_if b p of form)
bound_if_goes false p' p of form h s = done _ _ form _ s refl refl
bound_if_goes true p' p of form h s = checked_goes kind.Bound p' p _ (record { of = Some of; annotated = false }) form h refl s

new_kept : (p' p : Place) (n q : ℕ) (ts : List Ty) (all : Arguments) → p' ≡ line p →
    c.at p' (c.new n q ts (c.cores (map k.core all.forms)) all.names) ≡ k.core (c.at p (c.new n q ts (c.cores all.forms) all.names))
unfolding k.core k.cores
new_kept p' p n q ts all h = λ i. c.at (h i) (c.new n q ts (cores_map all.forms i) all.names)

new_goes : (p' p : Place) (n q : ℕ) (ts : List Ty) (all : Arguments) → p' ≡ line p → Goes k.core (e.new_form p' n q ts (k.arguments all)) (e.new_form p n q ts all)
new_goes p' p n q ts all h s = (λ i. e.bound_if (s.tables.is_bounded n) p' (class n (tys ts)) (new_kept p' p n q ts all h i) (k.state s)) ∙
    bound_if_goes (s.tables.is_bounded n) p' p (class n (tys ts)) (c.at p (c.new n q ts (c.cores all.forms) all.names)) h s

created_by_goes : (made : m.Made) (p' p : Place) (n : ℕ) (ts : List Ty) (missing : Text) (all : Arguments) → p' ≡ line p →
    Goes k.core (e.created_by made p' n ts missing (k.arguments all)) (e.created_by made p n ts missing all)
created_by_goes (m.generative q) p' p n ts missing all h s = new_goes p' p n q ts all h s
created_by_goes (m.factory q) p' p n ts missing all h s = new_goes p' p n q ts all h s
created_by_goes m.no_constructor p' p n ts missing all h s = done _ _ (r.raised_behind p all.forms NoSuchMethodError missing false) _ s
    ((λ i. r.raised_behind (h i) (map k.core all.forms) NoSuchMethodError missing false) ∙ raised_kept p all.forms NoSuchMethodError missing false) refl

no_class_goes : (p' p : Place) (name : Text) (all : Arguments) → p' ≡ line p → Goes k.core (λ st. went (e.no_class p' name (k.arguments all)) st) (λ st. went (e.no_class p name all) st)
no_class_goes p' p name all h s = done _ _ (e.no_class p name all) _ s
    ((λ i. r.raised_behind (h i) (map k.core all.forms) MalformedTypeError name false) ∙ raised_kept p all.forms MalformedTypeError name false) refl

created_ends : (p' p : Place) (of : Typed) (name : Text) (o : Option PlacedName) (all : Arguments) → p' ≡ line p →
    Goes k.core (e.created p' of name (option_lined o) (k.arguments all)) (e.created p of name o all)
created_ends p' p (malformed n) name o all h s = no_class_goes p' p n all h s
created_ends p' p (well_formed (class n ts)) name o all h s =
    (λ i. e.created_by (s.tables.constructor n (id_same o s i)) p' n (e.listed ts) (missing_same o name s i) (k.arguments all) (k.state s)) ∙
    created_by_goes (s.tables.constructor n (e.id_text o s)) p' p n (e.listed ts) (e.missing_name o name s) all h s
created_ends p' p (well_formed dynamic) name o all h s = no_class_goes p' p name all h s
created_ends p' p (well_formed void) name o all h s = no_class_goes p' p name all h s
created_ends p' p (well_formed bottom) name o all h s = no_class_goes p' p name all h s
created_ends p' p (well_formed (parameter n)) name o all h s = no_class_goes p' p name all h s
created_ends p' p (well_formed (function result required optional names)) name o all h s = no_class_goes p' p name all h s

pub created_goes : (p' p : Place) (of : Typed) (n' name : Text) (o' o : Option PlacedName) (all : Arguments) → p' ≡ line p → n' ≡ name → o' ≡ option_lined o →
    Goes k.core (e.created p' of n' o' (k.arguments all)) (e.created p of name o all)
created_goes p' p of n' name o' o all h l d s = (λ i. e.created p' of (l i) (d i) (k.arguments all) (k.state s)) ∙ created_ends p' p of name o all h s

pub constant_same : (x : Creation) → e.is_constant (leaf.creation x) ≡ e.is_constant x
constant_same (n.New place) = refl
constant_same (n.Const place) = refl

meeting_kept : (b : Bool) (s : State) → e.meeting_constant b (k.state s) ≡ k.state (e.meeting_constant b s)
meeting_kept false s = refl
meeting_kept true s = refl

pub meeting_same : (b' b : Bool) (s : State) → b' ≡ b → e.meeting_constant b' (k.state s) ≡ k.state (e.meeting_constant b s)
meeting_same b' b s h = ap (λ (x : Bool). e.meeting_constant x (k.state s)) h ∙ meeting_kept b s
