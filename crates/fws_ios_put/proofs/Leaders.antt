-- Entries whose packets are treated alike.
use Rattle.std.proofs.Common.{◌≡◌, ◌≢◌, ◌⊎◌, inl, inr, ℕ, zero, suc, ◌+◌, ◌-◌, ◌<◌, ◌≤◌, Bool, true, false, ◌&&◌, cond, nat_eq, Some, List, [], ◌∷◌, ◌++◌, length, slice_get, get_or, refl, sym, ap, ◌∙◌, arith, subst}
use Rattle.std.proofs.lemmas.Bool.{and_parts, cases_Bool, eqb-false, eqb-true, false≢true, ne_eqb, or_cases}
use Rattle.std.specs.List.{list_any}
use Rattle.fws_iv.specs.Ivs.{has}
use Rattle.fws_tree.specs.declared.node.Kid.{Kid}
use Rattle.fws_tree.specs.declared.node.Node.{Node}
use Rattle.fws_tree.specs.Plain.{Plain, branch, cut, kid_at, leaf}
use Rattle.fws_tree.specs.Shared.{IsShared, subtree_of}
use Rattle.fws_tree_seen.specs.Cuts.{IsCutNode, kids_of}
use Rattle.fws_ios_put.specs.Layout.{AreAlike, AreLeaders, HasLeader, MayLead, leader}

-- a kid that passes a test stands at some place
kid_with : (test : Kid → Bool) (kids : List Kid) → list_any test kids ≡ true → (i : ℕ) × (k : Kid) × (slice_get kids i ≡ Some k) × (test k ≡ true)
kid_with test [] h = absurd (false≢true h)
kid_with test (k ∷ kids) h = elim (or_cases (test k) (list_any test kids) h) [
  | inl here ↦ (zero, k, refl, here)
  | inr there ↦ (let found = kid_with test kids there in (suc found.0, found.1, found.2, found.3))
]

-- a tree whose last node cuts entries has the same of two that a kid has
pub kid_same : (tops : List ℕ) (t : Plain Bool) (leaves : List Bool) (nodes : List Node) (kids : List Kid) (a b : ℕ) → IsShared tops t leaves nodes
    → IsCutNode tops leaves nodes (length nodes - 1) 0 kids → list_any (λ (kid : Kid). has kid.set a && has kid.set b) kids ≡ true → branch 0 t a ≡ branch 0 t b
kid_same tops t leaves nodes kids a b shared node h =
    let found = kid_with (λ (kid : Kid). has kid.set a && has kid.set b) kids h in
    let both = and_parts (has found.1.set a) (has found.1.set b) found.3 in
    let is : t ≡ cut 0 (kids_of (λ n. subtree_of leaves nodes n) kids) = shared.last ∙ node.tree in
    ap (λ (u : Plain Bool). branch 0 u a) is ∙ node.found found.0 a found.1 found.2 both.0
    ∙ sym (node.found found.0 b found.1 found.2 both.1) ∙ sym (ap (λ (u : Plain Bool). branch 0 u b) is)

-- one whose last node cuts another field has the same of all
pub other_same : (tops : List ℕ) (t : Plain Bool) (leaves : List Bool) (nodes : List Node) (f : ℕ) (kids : List Kid) (a b : ℕ) → IsShared tops t leaves nodes
    → IsCutNode tops leaves nodes (length nodes - 1) f kids → f ≢ 0 → branch 0 t a ≡ branch 0 t b
other_same tops t leaves nodes f kids a b shared node other =
    let ks = kids_of (λ n. subtree_of leaves nodes n) kids in
    let is : t ≡ cut f ks = shared.last ∙ node.tree in
    let off : nat_eq f 0 ≡ false = ne_eqb f 0 other in
    ap (λ (u : Plain Bool). branch 0 u a) is ∙ ap (λ (h : Bool). cond h (kid_at ks a) (cut f ks)) off
    ∙ sym (ap (λ (h : Bool). cond h (kid_at ks b) (cut f ks)) off) ∙ sym (ap (λ (u : Plain Bool). branch 0 u b) is)

-- and so has a leaf
pub leaf_same : (t : Plain Bool) (l : Bool) (a b : ℕ) → t ≡ leaf l → branch 0 t a ≡ branch 0 t b
leaf_same t l a b is = ap (λ (u : Plain Bool). branch 0 u a) is ∙ sym (ap (λ (u : Plain Bool). branch 0 u b) is)

-- Leaders

get_front : (xs : List ℕ) (y k : ℕ) → k < length xs → get_or (xs ++ y ∷ []) k 0 ≡ get_or xs k 0
get_front [] y k lt = absurd (omega arith)
get_front (x ∷ xs) y zero lt = refl
get_front (x ∷ xs) y (suc k) lt = get_front xs y k (omega arith)

get_last : (xs : List ℕ) (y : ℕ) → get_or (xs ++ y ∷ []) (length xs) 0 ≡ y
get_last [] y = refl
get_last (x ∷ xs) y = get_last xs y

longer : (xs : List ℕ) (y : ℕ) → length (xs ++ y ∷ []) ≡ length xs + 1
longer [] y = refl
longer (x ∷ xs) y = ap suc (longer xs y) ∙ back (length xs) where
  back : (n : ℕ) → suc (n + 1) ≡ suc n + 1
  back n = omega arith

pub no_leaders : (new known : Plain Bool) → AreLeaders new known 0 []
no_leaders new known = record { size = refl; each = λ entry low high. absurd (omega arith) }

-- one more entry
pub one_more : (new known : Plain Bool) (most n : ℕ) (leaders : List ℕ) → AreLeaders new known most leaders → MayLead new known leaders (most + 1) n → AreLeaders new known (most + 1) (leaders ++ n ∷ [])
one_more new known most n leaders all lead = record {
  size = longer leaders n ∙ ap (λ k. k + 1) all.size;
  each = each;
} where
  old : (k : ℕ) → 1 ≤ k → k ≤ most → leader (leaders ++ n ∷ []) k ≡ leader leaders k
  old k low high = let size = all.size in get_front leaders n (k - 1) (omega arith)

  last : (k : ℕ) → k ≡ most + 1 → leader (leaders ++ n ∷ []) k ≡ n
  last k is = ap (λ i. get_or (leaders ++ n ∷ []) i 0) (let size = all.size in at size) ∙ get_last leaders n where
    at : length leaders ≡ most → k - 1 ≡ length leaders
    at size = omega arith

  each : (k : ℕ) → 1 ≤ k → k ≤ most + 1 → HasLeader new known (leaders ++ n ∷ []) k
  each k low high = elim (cases_Bool (nat_eq k (most + 1))) [
    | inl e ↦ (newest k (eqb-true k (most + 1) e))
    | inr e ↦ (let other : k ≢ most + 1 = eqb-false k (most + 1) e in earlier k low (omega arith))
  ] where
    earlier : (k : ℕ) → 1 ≤ k → k ≤ most → HasLeader new known (leaders ++ n ∷ []) k
    earlier k low high =
        let had = all.each k low high in
        let is = old k low high in
        let below : leader leaders k ≤ most = (let h = had.high in omega arith) in
        record {
          low = subst (λ m. 1 ≤ m) (sym is) had.low;
          high = subst (λ m. m ≤ k) (sym is) had.high;
          itself = ap (leader (leaders ++ n ∷ [])) is ∙ old (leader leaders k) had.low below ∙ had.itself ∙ sym is;
          alike = subst (λ m. AreAlike new known m k) (sym is) had.alike;
        }

    newest : (k : ℕ) → k ≡ most + 1 → HasLeader new known (leaders ++ n ∷ []) k
    newest k e =
        let is = last k e in
        record {
          low = subst (λ m. 1 ≤ m) (sym is) lead.low;
          high = subst (λ m. m ≤ k) (sym is) (high_of lead.own);
          itself = ap (leader (leaders ++ n ∷ [])) is ∙ itself_of lead.own ∙ sym is;
          alike = subst (λ m. AreAlike new known m k) (sym is) (subst (λ m. AreAlike new known n m) (sym e) lead.alike);
        }
      where
        high_of : (n ≡ most + 1) ⊎ ((n < most + 1) × (leader leaders n ≡ n)) → n ≤ k
        high_of (inl same) = omega arith
        high_of (inr below) = let lt = below.0 in omega arith

        itself_of : (n ≡ most + 1) ⊎ ((n < most + 1) × (leader leaders n ≡ n)) → leader (leaders ++ n ∷ []) n ≡ n
        itself_of (inl same) = last n same
        itself_of (inr below) = (let lt = below.0 in old n lead.low (omega arith)) ∙ below.1
