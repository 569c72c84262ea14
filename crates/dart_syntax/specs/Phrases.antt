-- Phrases: what the grammar's parts are made of. A phrase says of its trees which tokens they have
-- and which are well formed, and of lists of tokens which ones begin it. A list that begins a
-- phrase has the first parts of one alternative in order, the last of them may be unfinished, and
-- nothing follows it.
use Rattle.std.specs.Prelude.{◌≡◌, Bool, true, List, [], Option, ◌⊎◌}
use Rattle.std.specs.List.{flat_map, AllByRecursion}
use Rattle.dart_token.specs.declared.token.Token.{Token}
use Rattle.grammar_laws.specs.Readers.{always}
use Rattle.grammar_laws.specs.Fronts.{Front, Empty, Joint, JointBy, Several, Either, both_spelling, BothFit, BothFitBy, option_spelling, OptionFit, Made, GoodFit, GoesOn, SomeFit, Nothing, EitherFit, FirstFit}

infixr 8 ◌~◌
infixr 6 ◌<|>◌
pub record Phrase (A : Type 0) : Type 1 where
  -- the tokens of a tree
  pub spelling : A → List Token
  -- the tree is well formed, and no deeper than the phrase allows
  pub Fits : A → Type 0
  -- the list begins such a tree
  pub front : Front Token

-- ---- single tokens, which are there whole or not at all

abbrev pub Anything : {A : Type 0} → A → Type 0
Anything a = Unit {0}

abbrev pub LeafFront : {A : Type 0} → (A → List Token) → Front Token
LeafFront {A} spelling ts = (ts ≡ []) ⊎ ((a : A) × (ts ≡ spelling a))

abbrev pub leaf : {A : Type 0} → (A → List Token) → Phrase A
leaf spelling = record { spelling = spelling; Fits = Anything; front = LeafFront spelling }

-- this tree, which has no token
abbrev pub exactly : {A : Type 0} → (A → List Token) → A → Phrase A
exactly spelling a = record { spelling = spelling; Fits = λ x. x ≡ a; front = Empty }

-- no tree: as deep as the phrase may be, none of its nodes has room
abbrev pub no_room : {A : Type 0} → (A → List Token) → Phrase A
no_room spelling = record { spelling = spelling; Fits = Nothing; front = Empty }

-- ---- one after the other

abbrev pub seq : {A B : Type 0} → Phrase A → Phrase B → Phrase (A × B)
seq p q = record {
  spelling = both_spelling p.spelling q.spelling;
  Fits = BothFit p.Fits q.Fits;
  front = Joint p.spelling p.Fits always p.front q.front;
}

-- the same, as productions write it
abbrev pub ◌~◌ : {A B : Type 0} → Phrase A → Phrase B → Phrase (A × B)
p ~ q = seq p q

-- a first, which passes the test, and a second
abbrev pub seq_if : {A B : Type 0} → (A → Bool) → Phrase A → Phrase B → Phrase (A × B)
seq_if may p q = record {
  spelling = both_spelling p.spelling q.spelling;
  Fits = BothFit (GoesOn p.Fits may) q.Fits;
  front = Joint p.spelling p.Fits may p.front q.front;
}

-- a first, and a second that depends on it
abbrev pub seq_by : {A B : Type 0} → (B → List Token) → Phrase A → (A → Phrase B) → Phrase (A × B)
seq_by spelling p q = record {
  spelling = both_spelling p.spelling spelling;
  Fits = BothFitBy p.Fits (λ a. (q a).Fits);
  front = JointBy p.spelling p.Fits always p.front (λ a. (q a).front);
}

abbrev pub opt : {A : Type 0} → Phrase A → Phrase (Option A)
opt p = record { spelling = option_spelling p.spelling; Fits = OptionFit p.Fits; front = p.front }

-- any number of items
abbrev pub many : {A : Type 0} → Phrase A → Phrase (List A)
many p = record {
  spelling = flat_map p.spelling;
  Fits = AllByRecursion p.Fits;
  front = Several p.spelling p.Fits always p.front;
}

-- one item or more
abbrev pub some : {A : Type 0} → Phrase A → Phrase (A × List A)
some p = seq p (many p)

-- one item or more, each of which but the last passes the test
abbrev pub some_if : {A : Type 0} → (A → Bool) → Phrase A → Phrase (List A)
some_if may p = record {
  spelling = flat_map p.spelling;
  Fits = SomeFit p.Fits may;
  front = Several p.spelling p.Fits may p.front;
}

-- ---- alternatives

-- either of two; the same tree has the same tokens in both
abbrev pub either : {A : Type 0} → Phrase A → Phrase A → Phrase A
either p q = record {
  spelling = p.spelling;
  Fits = EitherFit p.Fits q.Fits;
  front = Either p.front q.front;
}

-- the same, as productions write it
abbrev pub ◌<|>◌ : {A : Type 0} → Phrase A → Phrase A → Phrase A
p <|> q = either p q

-- the first wherever the tokens can be read so, and else the second
abbrev pub rather : {A : Type 0} → Phrase A → Phrase A → Phrase A
rather p q = record {
  spelling = p.spelling;
  Fits = FirstFit p.spelling p.Fits q.Fits;
  front = Either p.front q.front;
}

-- the phrase, or this tree without tokens
abbrev pub perhaps : {A : Type 0} → A → Phrase A → Phrase A
perhaps a p = either (exactly p.spelling a) p

-- ---- trees

-- the trees that are made so of the phrase's parts
abbrev pub made : {A B : Type 0} → (B → List Token) → (A → B) → Phrase A → Phrase B
made spelling f p = record { spelling = spelling; Fits = Made f p.Fits; front = p.front }

-- the same of the parts of a sequence, by their number
abbrev pub made₂ : {A B X : Type 0} → (X → List Token) → (A → B → X) → Phrase (A × B) → Phrase X
made₂ spelling f p = made spelling (λ x. f x.0 x.1) p

abbrev pub made₃ : {A B C X : Type 0} → (X → List Token) →
    (A → B → C → X) → Phrase (A × (B × C)) → Phrase X
made₃ spelling f p = made₂ spelling (λ a x. f a x.0 x.1) p

abbrev pub made₄ : {A B C D X : Type 0} → (X → List Token) →
    (A → B → C → D → X) → Phrase (A × (B × (C × D))) → Phrase X
made₄ spelling f p = made₃ spelling (λ a b x. f a b x.0 x.1) p

abbrev pub made₅ : {A B C D E X : Type 0} → (X → List Token) →
    (A → B → C → D → E → X) → Phrase (A × (B × (C × (D × E)))) → Phrase X
made₅ spelling f p = made₄ spelling (λ a b c x. f a b c x.0 x.1) p

abbrev pub made₆ : {A B C D E F X : Type 0} → (X → List Token) →
    (A → B → C → D → E → F → X) → Phrase (A × (B × (C × (D × (E × F))))) → Phrase X
made₆ spelling f p = made₅ spelling (λ a b c d x. f a b c d x.0 x.1) p

abbrev pub made₇ : {A B C D E F G X : Type 0} → (X → List Token) →
    (A → B → C → D → E → F → G → X) → Phrase (A × (B × (C × (D × (E × (F × G)))))) → Phrase X
made₇ spelling f p = made₆ spelling (λ a b c d e x. f a b c d e x.0 x.1) p

abbrev pub made₈ : {A B C D E F G H X : Type 0} → (X → List Token) →
    (A → B → C → D → E → F → G → H → X) → Phrase (A × (B × (C × (D × (E × (F × (G × H))))))) →
    Phrase X
made₈ spelling f p = made₇ spelling (λ a b c d e g x. f a b c d e g x.0 x.1) p

abbrev pub made₉ : {A B C D E F G H I X : Type 0} → (X → List Token) →
    (A → B → C → D → E → F → G → H → I → X) →
    Phrase (A × (B × (C × (D × (E × (F × (G × (H × I)))))))) → Phrase X
made₉ spelling f p = made₈ spelling (λ a b c d e g h x. f a b c d e g h x.0 x.1) p

-- those that pass the test, which only chooses between trees of one list or asks for more tokens
abbrev pub such : {A : Type 0} → (A → Bool) → Phrase A → Phrase A
such good p = record { spelling = p.spelling; Fits = GoodFit p.Fits good; front = p.front }

-- those whose tokens pass the test, as what begins them does
abbrev pub such_tokens : {A : Type 0} → (List Token → Bool) → Phrase A → Phrase A
such_tokens good p = record {
  spelling = p.spelling;
  Fits = λ a. p.Fits a × (good (p.spelling a) ≡ true);
  front = λ ts. p.front ts × (good ts ≡ true);
}
