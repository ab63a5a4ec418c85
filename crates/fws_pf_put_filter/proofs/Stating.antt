-- One state more.
use Rattle.std.proofs.Common.{◌≡◌, ◌⊎◌, ℕ, ◌+◌, ◌<◌, ◌≤◌, Bool, true, false, Option, Some, None, List, [], ◌∷◌, ◌++◌, length, length-append, get_or, slice_get, take, inl, inr, refl, sym, ◌∙◌, ap, subst, arith}
use Rattle.std.proofs.lemmas.Bool.{cases_Bool, eq-eqb, eqb-true, false≢true}
use Rattle.std.proofs.lemmas.List.{get_or_append_left, take_more}
use Rattle.std.proofs.lemmas.List.Elements.{All-append, All-cons, All-nil, All-from_recursion}
use Rattle.std.proofs.lemmas.Option.{get_or_from_slice_get, same_Some, slice_get-get_or, slice_get_within}
use Rattle.std.proofs.Math.Seq.{get_or-append_seam}
use Rattle.std.specs.List.{AllByRecursion}
use Rattle.std.specs.Prelude.{nat_eq, slice_index_or, All}
use Rattle.fws_net.specs.declared.outcome.End.{End}
use Rattle.fws_net.specs.declared.outcome.Outcome.{Outcome}
use Rattle.fws_net.specs.declared.outcome.Outcome.TheVariants.{Accept, Drop}
use Rattle.fws_tree.specs.declared.node.Kid.{Kid}
use Rattle.fws_tree.specs.declared.node.Node.{Node}
use Rattle.fws_tree.specs.declared.node.Node.TheVariants.{Leaf, Cut}
use Rattle.fws_pf_put_filter.specs.declared.states.OwnLeaf.{OwnLeaf}
use Rattle.fws_pf_put_filter.specs.States.{state_at, AgreeInSource, AreStates, IsLeafNode}
use Rattle.fws_pf_put_filter.specs.Stating.{stripped, AreStatesBefore, IsCutState, IsFound, IsNext, IsOwnLeaf}

-- ---- outcomes without destinations

abbrev src_of : Outcome → Option End
src_of Drop = None
src_of (Accept v) = v.src

abbrev drops : Outcome → Bool
drops Drop = true
drops (Accept v) = false

pub stripped_agree : (v w : Outcome) → stripped v ≡ stripped w → AgreeInSource v w
stripped_agree Drop Drop e = tt
stripped_agree Drop (Accept w) e = absurd (false≢true (sym (ap drops e)))
stripped_agree (Accept v) Drop e = absurd (false≢true (ap drops e))
stripped_agree (Accept v) (Accept w) e = ap src_of e

agree_same : (w : Outcome) → AgreeInSource w w
agree_same Drop = tt
agree_same (Accept v) = refl

-- ---- states behind others

old_state : (states : List ℕ) (s n : ℕ) → n < length states → state_at (states ++ s ∷ []) n ≡ state_at states n
old_state states s n lt = get_or_append_left states (s ∷ []) 0 n lt

new_state : (states : List ℕ) (s : ℕ) → state_at (states ++ s ∷ []) (length states) ≡ s
new_state states s = get_or-append_seam states s [] 0

-- what is needed of the next state
pub record IsFit (leaves : List Outcome) (nodes : List Node) (states : List ℕ) (k s : ℕ) : Type 0 where
  pub low : (s ≡ k) ⊎ ((s < k) × (state_at states s ≡ s))
  pub leaf : (w : Outcome) → IsLeafNode leaves nodes k w → (v : Outcome) × IsLeafNode leaves nodes s v × AgreeInSource w v
  pub cut : (f : ℕ) (kids : List Kid) → slice_get nodes k ≡ Some (Cut f kids) → (s ≡ k) ⊎ (AllByRecursion (λ kid. kid.node < k) kids × All (λ kid. state_at states kid.node ≡ s) kids)

-- the kids keep their states
kids_keep : (states : List ℕ) (s k : ℕ) (kids : List Kid) → length states ≡ k → AllByRecursion (λ kid. kid.node < k) kids → (c : ℕ) → All (λ kid. state_at states kid.node ≡ c) kids
    → All (λ kid. state_at (states ++ s ∷ []) kid.node ≡ c) kids
kids_keep states s k kids size before c all = λ i d lt.
    let less = All-from_recursion (λ kid. kid.node < k) kids before i d lt in
    old_state states s (get_or kids i d).node (omega (arith, size, less)) ∙ all i d lt

pub fit_more : (leaves : List Outcome) (nodes : List Node) (k s : ℕ) (states new : List ℕ) (old owned : List OwnLeaf)
    → ((n f : ℕ) (kids : List Kid) → slice_get nodes n ≡ Some (Cut f kids) → AllByRecursion (λ kid. kid.node < n) kids)
    → AreStatesBefore leaves nodes k states old → IsFit leaves nodes states k s → new ≡ states ++ s ∷ [] → All (IsOwnLeaf leaves nodes new) owned → AreStatesBefore leaves nodes (k + 1) new owned
fit_more leaves nodes k s states new old owned before h fit is owns = record {
  size = ap length is ∙ length-append states (s ∷ []) ∙ ap (λ n. n + 1) h.size;
  low = λ n lt. at_last (λ n s. s ≤ n) (λ n less. h.low n less) (lowest fit.low) n lt;
  own = λ n lt. at_last (λ n s. state_at new s ≡ s) (λ n less. let low = h.low n less in old_at (state_at states n) (omega (arith, low, less)) ∙ h.own n less) (owned_new fit.low) n lt;
  leaf = λ n w lt node. at_last (λ n s. (w : Outcome) → IsLeafNode leaves nodes n w → (v : Outcome) × IsLeafNode leaves nodes s v × AgreeInSource w v) (λ n less w node. h.leaf n w less node) fit.leaf n lt w node;
  cut = λ n f kids lt there.
      at_last (λ n s. (f : ℕ) (kids : List Kid) → slice_get nodes n ≡ Some (Cut f kids) → (s ≡ n) ⊎ All (λ kid. state_at new kid.node ≡ s) kids)
      (λ n less f kids there. old_cut n less f kids there (h.cut n f kids less there))
      (λ f kids there. new_cut kids (fit.cut f kids there)) n lt f kids there;
  owns = owns;
}
  where
    old_at : (n : ℕ) → n < k → state_at new n ≡ state_at states n
    old_at n lt = ap (λ l. state_at l n) is ∙ old_state states s n (let size = h.size in omega (arith, size, lt))

    last : state_at new k ≡ s
    last = ap (λ l. state_at l k) is ∙ ap (λ n. state_at (states ++ s ∷ []) n) (sym h.size) ∙ new_state states s

    -- what holds of the old nodes and of the new one
    at_last : (P : ℕ → ℕ → Type 0) → ((n : ℕ) → n < k → P n (state_at states n)) → P k s → (n : ℕ) → n < k + 1 → P n (state_at new n)
    at_last P each one n lt = elim (cases_Bool (nat_eq k n)) [
      | inl y ↦ subst (λ m. P m (state_at new m)) (eqb-true k n y) (subst (λ x. P k x) (sym last) one)
      | inr z ↦ (let less : n < k = lower n lt (λ e. false≢true (sym z ∙ eq-eqb k n e)) in subst (λ x. P n x) (sym (old_at n less)) (each n less))
    ]
      where
        lower : (n : ℕ) → n < k + 1 → (k ≡ n → ⊥) → n < k
        lower n lt ne = omega (arith, lt, ne)

    lowest : (s ≡ k) ⊎ ((s < k) × (state_at states s ≡ s)) → s ≤ k
    lowest (inl e) = omega (arith, e)
    lowest (inr a) = let lt = a.0 in omega (arith, lt)

    owned_new : (s ≡ k) ⊎ ((s < k) × (state_at states s ≡ s)) → state_at new s ≡ s
    owned_new (inl e) = ap (λ n. state_at new n) e ∙ last
    owned_new (inr a) = old_at s a.0 ∙ a.1

    kept : (kids : List Kid) (c : ℕ) → AllByRecursion (λ kid. kid.node < k) kids → All (λ kid. state_at states kid.node ≡ c) kids → All (λ kid. state_at new kid.node ≡ c) kids
    kept kids c less all = subst (λ l. All (λ kid. state_at l kid.node ≡ c) kids) (sym is) (kids_keep states s k kids h.size less c all)

    old_cut : (n : ℕ) → n < k → (f : ℕ) (kids : List Kid) → slice_get nodes n ≡ Some (Cut f kids) → (state_at states n ≡ n) ⊎ All (λ kid. state_at states kid.node ≡ state_at states n) kids
        → (state_at states n ≡ n) ⊎ All (λ kid. state_at new kid.node ≡ state_at states n) kids
    old_cut n less f kids there (inl e) = inl e
    old_cut n less f kids there (inr all) = inr (λ i d lt.
        let b = All-from_recursion (λ kid. kid.node < n) kids (before n f kids there) i d lt in old_at (get_or kids i d).node (omega (arith, b, less)) ∙ all i d lt)

    new_cut : (kids : List Kid) → (s ≡ k) ⊎ (AllByRecursion (λ kid. kid.node < k) kids × All (λ kid. state_at states kid.node ≡ s) kids) → (s ≡ k) ⊎ All (λ kid. state_at new kid.node ≡ s) kids
    new_cut kids (inl e) = inl e
    new_cut kids (inr a) = inr (kept kids s a.0 a.1)

-- ---- the leaves that are their own states

own_kept : (leaves : List Outcome) (nodes : List Node) (states : List ℕ) (s : ℕ) (o : OwnLeaf) → IsOwnLeaf leaves nodes states o → IsOwnLeaf leaves nodes (states ++ s ∷ []) o
own_kept leaves nodes states s o h = record {
  inside = let a = h.inside in let l = length-append states (s ∷ []) in omega (arith, a, l);
  own = old_state states s o.node h.inside ∙ h.own;
  outcome = h.outcome;
  leaf = h.leaf;
  is = h.is;
}

owns_kept : (leaves : List Outcome) (nodes : List Node) (states : List ℕ) (s : ℕ) (owned : List OwnLeaf) → All (IsOwnLeaf leaves nodes states) owned → All (IsOwnLeaf leaves nodes (states ++ s ∷ [])) owned
owns_kept leaves nodes states s owned all = λ i d lt. own_kept leaves nodes states s (get_or owned i d) (all i d lt)

-- one that was found
found : (leaves : List Outcome) (nodes : List Node) (states : List ℕ) (k : ℕ) (owned : List OwnLeaf) (w : Outcome) (s : ℕ) → length states ≡ k → All (IsOwnLeaf leaves nodes states) owned → IsFound owned (stripped w) s
    → (s < k) × (state_at states s ≡ s) × ((v : Outcome) × IsLeafNode leaves nodes s v × AgreeInSource w v)
found leaves nodes states k owned w s size all f =
    let o = f.1 in
    let is : IsOwnLeaf leaves nodes states o =
    subst (λ (x : OwnLeaf). IsOwnLeaf leaves nodes states x) (get_or_from_slice_get owned f.0 o o f.2) (all f.0 o (slice_get_within owned f.0 o f.2)) in
    let inside = is.inside in
    let node : o.node ≡ s = f.4 in (
      omega (arith, inside, node, size),
      subst (λ n. state_at states n ≡ n) node is.own,
      (is.outcome, subst (λ n. IsLeafNode leaves nodes n is.outcome) node is.leaf, stripped_agree w is.outcome (sym (is.is ∙ f.3))),
    )

same_leaf : (leaves : List Outcome) (nodes : List Node) (k i : ℕ) (w : Outcome) → slice_get nodes k ≡ Some (Leaf i) → IsLeafNode leaves nodes k w → slice_index_or leaves i Drop ≡ w
same_leaf leaves nodes k i w there leaf =
    let same : leaf.0 ≡ i = number (same_Some (Leaf leaf.0) (Leaf i) (sym leaf.1 ∙ there)) in
    get_or_from_slice_get leaves i w Drop (subst (λ j. slice_get leaves j ≡ Some w) same leaf.2)
  where
    place : Node → ℕ
    place (Leaf j) = j
    place (Cut f kids) = 0

    number : Leaf leaf.0 ≡ Leaf i → leaf.0 ≡ i
    number e = ap place e

pub not_cut : (nodes : List Node) (k i f : ℕ) (kids : List Kid) → slice_get nodes k ≡ Some (Leaf i) → slice_get nodes k ≡ Some (Cut f kids) → ⊥
not_cut nodes k i f kids a b = false≢true (sym (ap is_leaf (same_Some (Leaf i) (Cut f kids) (sym a ∙ b))))
  where
    is_leaf : Node → Bool
    is_leaf (Leaf j) = true
    is_leaf (Cut g ks) = false

pub next_more : (leaves : List Outcome) (nodes : List Node) (k s : ℕ) (states new : List ℕ) (old owned : List OwnLeaf) (node : Node)
    → ((n f : ℕ) (kids : List Kid) → slice_get nodes n ≡ Some (Cut f kids) → AllByRecursion (λ kid. kid.node < n) kids)
    → ((n i : ℕ) → slice_get nodes n ≡ Some (Leaf i) → i < length leaves)
    → slice_get nodes k ≡ Some node → AreStatesBefore leaves nodes k states old → IsNext leaves states node k old owned s → new ≡ states ++ s ∷ [] → AreStatesBefore leaves nodes (k + 1) new owned
next_more leaves nodes k s states new old owned (Leaf i) before named there h (inl a) is =
    let f = found leaves nodes states k old (slice_index_or leaves i Drop) s h.size h.owns a.1 in
    fit_more leaves nodes k s states new old owned before h
    (record {
      low = inr (f.0, f.1);
      leaf = λ w leaf. subst (λ x. (v : Outcome) × IsLeafNode leaves nodes s v × AgreeInSource x v) (same_leaf leaves nodes k i w there leaf) f.2;
      cut = λ g kids cut. absurd (not_cut nodes k i g kids there cut);
    }) is
    (subst (λ l. All (IsOwnLeaf leaves nodes l) owned) (sym is) (owns_kept leaves nodes states s owned (subst (λ l. All (IsOwnLeaf leaves nodes states) l) (sym a.0) h.owns)))
next_more leaves nodes k s states new old owned (Leaf i) before named there h (inr a) is =
    let x = slice_index_or leaves i Drop in
    let get : slice_get leaves i ≡ Some x = slice_get-get_or leaves i Drop (named k i there) in
    let o : OwnLeaf = record { node = k; outcome = stripped x } in
    let size = h.size in
    let l = length-append states (s ∷ []) in
    let own : IsOwnLeaf leaves nodes (states ++ s ∷ []) o = record {
      inside = omega (arith, size, l);
      own = ap (λ n. state_at (states ++ s ∷ []) n) (sym size) ∙ new_state states s ∙ a.1;
      outcome = x;
      leaf = (i, there, get);
      is = refl;
    } in
    fit_more leaves nodes k s states new old owned before h
    (record {
      low = inl a.1;
      leaf = λ w leaf. (w, subst (λ n. IsLeafNode leaves nodes n w) (sym a.1) leaf, agree_same w);
      cut = λ g kids cut. absurd (not_cut nodes k i g kids there cut);
    }) is
    (subst (λ l. All (IsOwnLeaf leaves nodes l) owned) (sym is)
    (subst (λ m. All (IsOwnLeaf leaves nodes (states ++ s ∷ [])) m) (sym a.0)
    (All-append (IsOwnLeaf leaves nodes (states ++ s ∷ [])) old (o ∷ []) (owns_kept leaves nodes states s old h.owns)
    (All-cons (IsOwnLeaf leaves nodes (states ++ s ∷ [])) o [] own (All-nil (IsOwnLeaf leaves nodes (states ++ s ∷ [])))))))
next_more leaves nodes k s states new old owned (Cut f kids) before named there h a is =
    fit_more leaves nodes k s states new old owned before h
    (record {
      low = low a.1;
      leaf = λ w leaf. absurd (not_cut nodes k leaf.0 f kids leaf.1 there);
      cut = λ g others cut. of_cut (same_Some (Cut f kids) (Cut g others) (sym there ∙ cut)) a.1;
    }) is
    (subst (λ l. All (IsOwnLeaf leaves nodes l) owned) (sym is) (owns_kept leaves nodes states s owned (subst (λ l. All (IsOwnLeaf leaves nodes states) l) (sym a.0) h.owns)))
  where
    kids_of_node : Node → List Kid
    kids_of_node (Leaf j) = []
    kids_of_node (Cut g ks) = ks

    low : IsCutState states kids k s → (s ≡ k) ⊎ ((s < k) × (state_at states s ≡ s))
    low (inl e) = inl e
    low (inr b) =
        let kid = get_or kids 0 (record { set = []; node = 0 }) in
        let lt = All-from_recursion (λ kid. kid.node < k) kids (before k f kids there) 0 (record { set = []; node = 0 }) b.0 in
        let same : state_at states kid.node ≡ s = b.1 0 (record { set = []; node = 0 }) b.0 in
        let least = h.low kid.node lt in
        inr (omega (arith, lt, same, least), subst (λ n. state_at states n ≡ n) same (h.own kid.node lt))

    of_cut : {g : ℕ} {others : List Kid} → Cut f kids ≡ Cut g others → IsCutState states kids k s → (s ≡ k) ⊎ (AllByRecursion (λ kid. kid.node < k) others × All (λ kid. state_at states kid.node ≡ s) others)
    of_cut e (inl b) = inl b
    of_cut {g} {others} e (inr b) = inr (subst (λ ks. AllByRecursion (λ kid. kid.node < k) ks) (ap kids_of_node e) (before k f kids there), subst (λ ks. All (λ kid. state_at states kid.node ≡ s) ks) (ap kids_of_node e) b.1)

-- ---- the first and the last

pub no_states : (leaves : List Outcome) (nodes : List Node) → AreStatesBefore leaves nodes 0 [] []
no_states leaves nodes = record {
  size = refl;
  low = λ n lt. absurd (omega (arith, lt));
  own = λ n lt. absurd (omega (arith, lt));
  leaf = λ n w lt node. absurd (omega (arith, lt));
  cut = λ n f kids lt there. absurd (omega (arith, lt));
  owns = All-nil (IsOwnLeaf leaves nodes []);
}

pub states_done : (leaves : List Outcome) (nodes : List Node) (k : ℕ) (states : List ℕ) (owned : List OwnLeaf) → k ≡ length nodes → AreStatesBefore leaves nodes k states owned → AreStates leaves nodes states
states_done leaves nodes k states owned is h = record {
  size = h.size ∙ is;
  low = λ n lt. h.low n (subst (λ m. n < m) (sym is) lt);
  own = λ n lt. h.own n (subst (λ m. n < m) (sym is) lt);
  leaf = λ n w node. h.leaf n w (subst (λ m. n < m) (sym is) (slice_get_within nodes n (Leaf node.0) node.1)) node;
  cut = λ n f kids there. h.cut n f kids (subst (λ m. n < m) (sym is) (slice_get_within nodes n (Cut f kids) there)) there;
}

-- ---- one kid more

pub all_more : (P : Kid → Type 0) (kids : List Kid) (i : ℕ) (kid : Kid) → i < length kids → kid ≡ get_or kids i kid → All P (take i kids) → P kid → All P (take (i + 1) kids)
all_more P kids i kid lt is all one =
    subst (λ l. All P l) (ap (λ (k : Kid). take i kids ++ k ∷ []) is ∙ sym (take_more kids i kid lt)) (All-append P (take i kids) (kid ∷ []) all (All-cons P kid [] one (All-nil P)))
