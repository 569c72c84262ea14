-- What is added with one constructor or class more.
use Rattle.std.proofs.Common.{◌≡◌, ◌∙◌, ℕ, ◌+◌, ◌<◌, List, [], ◌∷◌, ◌++◌, length, drop, get_or, map, append_assoc, refl, sym, ap}
use Rattle.std.proofs.lemmas.List.{drop_more}
use Rattle.lower_added.specs.Added.{Added, Written, Generative, added_from, added_to, constructors_at, forwarders, starts_from, written_at}
use Rattle.lower_added.specs.Written.{generative}
use Rattle.lower_added.specs.declared.added.Row.{Row}
use Rattle.lower_added.specs.declared.written.Generative as code
use Rattle.lower_added.proofs.Nothing.{no_generative, no_row}

-- one constructor more behind those that are made
pub forwarders-step : (texts : List (List ℕ)) (made above : List code.Generative) (i n : ℕ) → i < length above
    → map (generative texts) made ++ forwarders n (map (generative texts) (drop i above))
    ≡ map (generative texts) (made ++ record { id = (get_or above i no_generative).id; number = n } ∷ []) ++ forwarders (n + 1) (map (generative texts) (drop (i + 1) above))
forwarders-step texts made above i n below =
    ap (λ (l : List code.Generative). map (generative texts) made ++ forwarders n (map (generative texts) l)) (drop_more above i no_generative below)
    ∙ by made
  where
    one : code.Generative
    one = record { id = (get_or above i no_generative).id; number = n }

    by : (made : List code.Generative) → map (generative texts) made ++ (generative texts one ∷ forwarders (n + 1) (map (generative texts) (drop (i + 1) above)))
        ≡ map (generative texts) (made ++ one ∷ []) ++ forwarders (n + 1) (map (generative texts) (drop (i + 1) above))
    by [] = refl
    by (x ∷ xs) = ap (λ (l : List Generative). generative texts x ∷ l) (by xs)

-- one class more behind those that are done
module _ (all : List Written) (n : ℕ) (done : List (List Generative)) (rows : List Row) (i : ℕ) (below : i < length rows) (one : Added) where
  abbrev row : Row
  row = get_or rows i no_row

  abbrev IsNext : Type 0
  IsNext = one ≡ added_to row.is_application (written_at all row.writes) (constructors_at done row.superclass) n

  pub added-step : IsNext → added_from all n done (drop i rows) ≡ added_from all one.next (done ++ one.constructors ∷ []) (drop (i + 1) rows)
  added-step is = ap (added_from all n done) (drop_more rows i no_row below)
      ∙ ap (λ (x : Added). added_from all x.next (done ++ x.constructors ∷ []) (drop (i + 1) rows)) (sym is)

  -- the number at which what is added to it begins
  pub starts-step : IsNext → (starts : List ℕ)
      → starts ++ starts_from all n done (drop i rows) ≡ (starts ++ n ∷ []) ++ starts_from all one.next (done ++ one.constructors ∷ []) (drop (i + 1) rows)
  starts-step is starts = ap (λ l. starts ++ starts_from all n done l) (drop_more rows i no_row below)
      ∙ ap (λ (x : Added). starts ++ n ∷ starts_from all x.next (done ++ x.constructors ∷ []) (drop (i + 1) rows)) (sym is)
      ∙ sym (append_assoc starts (n ∷ []) (starts_from all one.next (done ++ one.constructors ∷ []) (drop (i + 1) rows)))
