-- What functions declare, name and capture stays where their signatures become loose.
use Rattle.std.proofs.Common.{◌≡◌, ℕ, Bool, true, List, map, Option, Some, None, ◌⊎◌, inl, inr, refl, sym, ap, ◌∙◌, slice_get, IsTrue, ◌↔◌}
use Rattle.std.specs.Option.{option_map}
use Rattle.std.proofs.lemmas.Option.{slice_get-map}
use Rattle.core_program.specs.Program.{Function}
use Rattle.core_program.specs.Stripped as s
use Rattle.core_program.specs.Captured.{function_declares, function_names, function_makes, function_captures, Declares, NamesVar, Makes, Captures, CapturesWithin, IsInside, directly, deeper, ListCaptures}

declares_o : (x : ℕ) (o : Option (Function ℕ)) → function_declares x (option_map s.function o) ≡ function_declares x o
declares_o x None = refl
declares_o x (Some f) = refl

names_o : (x : ℕ) (o : Option (Function ℕ)) → function_names x (option_map s.function o) ≡ function_names x o
names_o x None = refl
names_o x (Some f) = refl

makes_o : (x : ℕ) (o : Option (Function ℕ)) → function_makes x (option_map s.function o) ≡ function_makes x o
makes_o x None = refl
makes_o x (Some f) = refl

captures_o : (x : ℕ) (o : Option (Function ℕ)) → function_captures x (option_map s.function o) ≡ function_captures x o
captures_o x None = refl
captures_o x (Some f) = refl

module _ (fs : List (Function ℕ)) where
  declares_is : (f x : ℕ) → function_declares x (slice_get (map s.function fs) f) ≡ function_declares x (slice_get fs f)
  declares_is f x = ap (function_declares x) (slice_get-map s.function fs f) ∙ declares_o x (slice_get fs f)

  names_is : (f x : ℕ) → function_names x (slice_get (map s.function fs) f) ≡ function_names x (slice_get fs f)
  names_is f x = ap (function_names x) (slice_get-map s.function fs f) ∙ names_o x (slice_get fs f)

  makes_is : (f g : ℕ) → function_makes g (slice_get (map s.function fs) f) ≡ function_makes g (slice_get fs f)
  makes_is f g = ap (function_makes g) (slice_get-map s.function fs f) ∙ makes_o g (slice_get fs f)

  pub captures_is : (f x : ℕ) → function_captures x (slice_get (map s.function fs) f) ≡ function_captures x (slice_get fs f)
  captures_is f x = ap (function_captures x) (slice_get-map s.function fs f) ∙ captures_o x (slice_get fs f)

  inside_was : (f h : ℕ) → IsInside (map s.function fs) f h → IsInside fs f h
  inside_was f h (directly _ _ m) = directly f h (sym (makes_is f h) ∙ m)
  inside_was f h (deeper _ g _ m i) = deeper f g h (sym (makes_is f g) ∙ m) (inside_was g h i)

  within_is : (g x : ℕ) → CapturesWithin fs g x → CapturesWithin (map s.function fs) g x
  within_is g x w = (w.0, (makes_is g w.0 ∙ w.1.0, captures_is w.0 x ∙ w.1.1))

  within_was : (g x : ℕ) → CapturesWithin (map s.function fs) g x → CapturesWithin fs g x
  within_was g x w = (w.0, (sym (makes_is g w.0) ∙ w.1.0, sym (captures_is w.0 x) ∙ w.1.1))

  needs_is : (g x : ℕ) → NamesVar fs g x ⊎ CapturesWithin fs g x → NamesVar (map s.function fs) g x ⊎ CapturesWithin (map s.function fs) g x
  needs_is g x (inl n) = inl (names_is g x ∙ n)
  needs_is g x (inr w) = inr (within_is g x w)

  needs_was : (g x : ℕ) → NamesVar (map s.function fs) g x ⊎ CapturesWithin (map s.function fs) g x → NamesVar fs g x ⊎ CapturesWithin fs g x
  needs_was g x (inl n) = inl (sym (names_is g x) ∙ n)
  needs_was g x (inr w) = inr (within_was g x w)

  pub captures_stay : ListCaptures fs → ListCaptures (map s.function fs)
  captures_stay h = record {
    nested = (h.nested.0, λ f g m. h.nested.1 f g (sym (makes_is f g) ∙ m));
    once = λ f i x d inside e. h.once f i x (sym (declares_is f x) ∙ d) (inside_was f i inside) (sym (declares_is i x) ∙ e);
    listed = λ g x. (
      (λ k. let r = (h.listed g x).0 (sym (captures_is g x) ∙ k) in
          ((λ d. r.0 (sym (declares_is g x) ∙ d)), needs_is g x r.1)),
      (λ r. captures_is g x ∙ (h.listed g x).1 ((λ d. r.0 (declares_is g x ∙ d)), needs_was g x r.1)),
    );
  }

  pub cells_stay : (x f : ℕ) (b : Bool) → IsTrue b ↔ (Declares fs f x × CapturesWithin fs f x)
      → IsTrue b ↔ (Declares (map s.function fs) f x × CapturesWithin (map s.function fs) f x)
  cells_stay x f b h = (
    (λ t. let r = h.0 t in (declares_is f x ∙ r.0, within_is f x r.1)),
    (λ r. h.1 (sym (declares_is f x) ∙ r.0, within_was f x r.1)),
  )
