-- Programs that are seen alike have one table, and the same header type in it is the first that is too large.
use Rattle.std.proofs.Common.{◌≡◌, ℕ, List, [], ◌∷◌, ◌++◌, map, cond, Bool, true, false, length, get_or, Option, Some, None, refl, sym, ap, ◌∙◌, subst as transport}
use Rattle.std.proofs.lemmas.List.{map-append}
use Rattle.dart_base.specs.declared.place.Place.{Place}
use Rattle.dart_ir.specs.Ty.{ty}
use Rattle.dart_ir.specs.declared.class.Classes.{Classes}
use Rattle.class_fault.specs.declared.fault.Fault.{Fault}
use Rattle.class_fault.specs.declared.program.HeaderType.{HeaderType}
use Rattle.class_fault.specs.declared.program.Declaration.{Declaration}
use Rattle.class_fault.specs.declared.program.Program.{Program}
use Rattle.class_table.specs.Renumbered.{renumbered}
use Rattle.class_table.specs.Built.{IsBuilt, IsRefused}
use Rattle.class_size.specs.Size.{IsTooLarge, option_list, header_list, user_types, all_user_types, IsFirst, no_more, here, later}
use Rattle.class_size.specs.Built.{IsSizedTo}
use Rattle.class_within.specs.Seen as s
use Rattle.class_within.specs.View as view
use Rattle.laws_table.specs.Shape as shape
use Rattle.laws_table.proofs.Like.{type_like, place_like, function_like}
use Rattle.laws_table.proofs.Graphs.{graph_like}
use Rattle.laws_table.proofs.Faults.{first_from_like}
use Rattle.laws_table.proofs.Rows.{program_like, table_like, members_like}

abbrev pub option_seen : Option s.HeaderType → List s.HeaderType
option_seen None = []
option_seen (Some t) = t ∷ []

abbrev pub user_seen : s.Class → List s.HeaderType
user_seen c = cond c.standing.is_user (option_seen c.superclass ++ c.mixins ++ c.interfaces) []

abbrev pub users_seen : List s.Class → List s.HeaderType
users_seen [] = []
users_seen (c ∷ cs) = user_seen c ++ users_seen cs

option_read : (o : Option HeaderType) → map view.header_type (option_list o) ≡ option_seen (view.superclass o)
option_read None = refl
option_read (Some t) = refl

header_list_read : (i : Declaration) → map view.header_type (header_list i) ≡ option_seen (view.class i).superclass ++ (view.class i).mixins ++ (view.class i).interfaces
header_list_read i =
    map-append view.header_type (option_list i.superclass ++ i.mixins.items) i.interfaces.items
    ∙ ap (λ z. z ++ map view.header_type i.interfaces.items)
    (map-append view.header_type (option_list i.superclass) i.mixins.items ∙ ap (λ z. z ++ map view.header_type i.mixins.items) (option_read i.superclass))

cond_read : (b : Bool) (ts : List HeaderType) → map view.header_type (cond b ts []) ≡ cond b (map view.header_type ts) []
cond_read true ts = refl
cond_read false ts = refl

user_read : (i : Declaration) → map view.header_type (user_types i) ≡ user_seen (view.class i)
user_read i = cond_read i.standing.is_user (header_list i) ∙ ap (λ z. cond i.standing.is_user z []) (header_list_read i)

pub users_read : (is : List Declaration) → map view.header_type (all_user_types is) ≡ users_seen (map view.class is)
users_read [] = refl
users_read (i ∷ is) =
    let a = user_read i in
    let b = users_read is in
    map-append view.header_type (user_types i) (all_user_types is) ∙ (λ r. a r ++ b r)

module _ (k : Classes) (ns : List ℕ) where
  large_like : (t u : HeaderType) → view.header_type t ≡ view.header_type u → IsTooLarge k (renumbered ns (ty t.of)) → IsTooLarge k (renumbered ns (ty u.of))
  large_like t u e h = transport (λ z. IsTooLarge k (renumbered ns z)) (type_like t u e) h

  pub first_like : (ts us : List HeaderType) (found : Option Place) → map view.header_type ts ≡ map view.header_type us → IsFirst k ns ts found → IsFirst k ns us found
  first_like _ [] _ e no_more = no_more
  first_like _ (u ∷ us) _ e no_more = absurd (cc)
  first_like _ [] _ e (here t ts h) = absurd (cc)
  first_like _ (u ∷ us) _ e (here t ts h) =
      let a : view.header_type t ≡ view.header_type u = cc in
      transport (λ z. IsFirst k ns (u ∷ us) (Some z)) (sym (place_like t u a)) (here u us (large_like t u a h))
  first_like _ [] _ e (later t ts found h m) = absurd (cc)
  first_like _ (u ∷ us) _ e (later t ts found h m) =
      let a : view.header_type t ≡ view.header_type u = cc in
      let b : map view.header_type ts ≡ map view.header_type us = cc in
      later u us found (λ l. h (large_like u t (sym a) l)) (first_like ts us found b m)

pub refused_shape : (p q : Program) → shape.program p ≡ shape.program q → (f : Fault) → IsRefused q f → IsRefused p f
refused_shape p q same f r = record {
  headers = r.headers;
  graph = graph_like p q same r.headers r.graph;
  first = first_from_like q p (sym same) r.headers 0 (Some f) r.first;
}

module _ (p q : Program) (same : view.program p ≡ view.program q) where
  abbrev pub built_like : (k : Classes) → IsBuilt q k → IsBuilt p k
  built_like k b = record {
    headers = b.headers;
    rows = b.rows;
    numbers = b.numbers;
    graph = graph_like p q (program_like p q same) b.headers b.graph;
    no_fault = first_from_like q p (sym (program_like p q same)) b.headers 0 None b.no_fault;
    are_rows = b.are_rows;
    table = table_like p q (program_like p q same) b.numbers b.rows (length b.rows) k.classes.items b.table;
    members = members_like p q same b.numbers b.rows (length b.rows) k.classes.items k.members.items b.members;
    function = b.function ∙ sym (ap (λ z. get_or b.numbers z 0) (function_like p q (program_like p q same)));
  }

  pub refused_like : (f : Fault) → IsRefused q f → IsRefused p f
  refused_like f r = refused_shape p q (program_like p q same) f r

  pub sized_like : (k : Classes) (found : Option Place) → IsSizedTo q k found → IsSizedTo p k found
  sized_like k found a = record {
    table = built_like k a.table;
    first = first_like k a.table.numbers (all_user_types q.declarations.items) (all_user_types p.declarations.items) found
        (users_read q.declarations.items ∙ sym (ap (λ (z : s.Program). users_seen z.classes) same) ∙ sym (users_read p.declarations.items)) a.first;
  }
