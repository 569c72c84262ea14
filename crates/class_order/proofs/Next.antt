-- Which class is finished next, where the finished classes are told in another way.
use Rattle.std.proofs.Common.{ℕ, ◌<◌, ◌≤◌, List, ◌++◌, length, arith, sym, ◌∙◌}
use Rattle.std.proofs.lemmas.List.{get_or_append_left}
use Rattle.class_order.specs.declared.header.Header.{Header}
use Rattle.class_order.specs.Order.{AreListed, IsBefore, Descends, here, down, IsNext}

module _ (hs : List Header) (listed : AreListed hs) (P Q : ℕ → Type 0) (to : (c : ℕ) → c < length hs → P c → Q c)
    (back : (c : ℕ) → c < length hs → Q c → P c) where
  descends_same : (d e : ℕ) → Descends hs P d e → Descends hs Q d e
  descends_same _ _ (here d) = here d
  descends_same _ _ (down d k e l f n r) =
      down d k e l (λ j m. to _ (listed d j (omega (arith, l, m))) (f j m)) (λ q. n (back _ (listed d k l) q)) (descends_same _ e r)

  pub next_same : (d : ℕ) → IsNext hs P d → IsNext hs Q d
  next_same d n = record {
    root = n.root;
    listed = n.listed;
    first = λ c l. to c (let m = n.listed in omega (arith, l, m)) (n.first c l);
    new = λ q. n.new (back n.root n.listed q);
    descends = descends_same n.root d n.descends;
  }

-- what is put behind an order leaves its front
before_push : (ds es : List ℕ) (i c : ℕ) → i ≤ length ds → IsBefore ds i c → IsBefore (ds ++ es) i c
before_push ds es i c l b = (b.0, b.1, get_or_append_left ds es 0 b.0 (let m = b.1 in omega (arith, m, l)) ∙ b.2)

before_front : (ds es : List ℕ) (i c : ℕ) → i ≤ length ds → IsBefore (ds ++ es) i c → IsBefore ds i c
before_front ds es i c l b = (b.0, b.1, sym (get_or_append_left ds es 0 b.0 (let m = b.1 in omega (arith, m, l))) ∙ b.2)

pub next_push : (hs : List Header) → AreListed hs → (ds es : List ℕ) (i d : ℕ) → i ≤ length ds
    → IsNext hs (IsBefore ds i) d → IsNext hs (IsBefore (ds ++ es) i) d
next_push hs listed ds es i d l n =
    next_same hs listed (IsBefore ds i) (IsBefore (ds ++ es) i) (λ c _ b. before_push ds es i c l b) (λ c _ b. before_front ds es i c l b) d n
