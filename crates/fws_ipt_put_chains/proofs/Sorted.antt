-- The rules of kids, put together.
use Rattle.std.proofs.Common.{◌≡◌, ℕ, ◌+◌, ◌<◌, ◌≤◌, Bool, true, false, cond, Some, List, [], ◌∷◌, ◌++◌, length, get_or, take, drop, slice_get, refl, inl, inr, sym, ◌∙◌, ap, subst, arith, append_assoc, append-nil}
use Rattle.std.proofs.lemmas.Bool.{cases_Bool, le-leb, leb-true, false_from_ne_true}
use Rattle.std.proofs.lemmas.List.{take-append-drop, drop_more, take_more, get_or_default}
use Rattle.std.proofs.lemmas.List.Sums.{sum_by-append, sum_by-cons, get_or-le-sum_by}
use Rattle.std.proofs.lemmas.Option.{none-some, same_Some, slice_get-get_or}
use Rattle.std.specs.List.{count_by, list_any}
use Rattle.std.specs.Prelude.{nat_le, All}
use Rattle.fws_iv.specs.Ivs.{has}
use Rattle.fws_net.specs.declared.condition.Lit.{Lit}
use Rattle.fws_ipt.specs.declared.config.IptGo.{IptGo}
use Rattle.fws_ipt.specs.declared.config.IptRule.{IptRule}
use Rattle.fws_tree.specs.declared.node.Kid.{Kid}
use Rattle.fws_tree_seen.specs.declared.field.PacketField.TheVariants.{Proto, Dst, Dport, Src, Sport, Flags, Icmp}
use Rattle.fws_tree_seen.specs.declared.field.PacketField.{PacketField}
use Rattle.fws_tree_seen.specs.Cuts.{PartValues}
use Rattle.fws_tree_seen.specs.Fields.{top_of}
use Rattle.fws_ipt_put_chains.specs.declared.coming.Coming.{Coming}
use Rattle.fws_ipt_put_chains.specs.Pieces.{ArePieces, IsSpelled, unspelled}
use Rattle.fws_ipt_put_chains.specs.Rules.{act_at, rules_of, AreKidRules}
use Rattle.fws_ipt_put_chains.proofs.Hits.{count_any}

-- rules of kids behind those of others
pub kid_rules_both : (c : Coming) (field : PacketField) (acts : List IptGo) (xs ys : List Kid) (a b : List IptRule) → AreKidRules c field acts xs a → AreKidRules c field acts ys b → AreKidRules c field acts (xs ++ ys) (a ++ b)
kid_rules_both c field acts [] ys a b h k = subst (λ l. AreKidRules c field acts ys l) (sym (ap (λ l. l ++ b) h)) k
kid_rules_both c field acts (x ∷ xs) ys a b h k =
    (h.0, h.1 ++ b, ap (λ l. l ++ b) h.2 ∙ append_assoc (rules_of (act_at acts x.node) h.0) h.1 b, h.3, kid_rules_both c field acts xs ys h.1 b h.4 k)

one_kid : (c : Coming) (field : PacketField) (acts : List IptGo) (x : Kid) (conds : List (List Lit)) → ArePieces c field x.set conds → AreKidRules c field acts (x ∷ []) (rules_of (act_at acts x.node) conds)
one_kid c field acts x conds h = (conds, [], sym (append-nil (rules_of (act_at acts x.node) conds)), h, refl)

-- the rules of one kid more
pub kid_rules_more : (c : Coming) (field : PacketField) (acts : List IptGo) (kids : List Kid) (i : ℕ) (x : Kid) (go : IptGo) (block : List IptRule) (conds : List (List Lit))
    → i < length kids → x ≡ get_or kids i x → go ≡ act_at acts x.node → AreKidRules c field acts (take i kids) block → ArePieces c field x.set conds
    → AreKidRules c field acts (take (i + 1) kids) (block ++ rules_of go conds)
kid_rules_more c field acts kids i x go block conds lt is does h k =
    let both = kid_rules_both c field acts (take i kids) (x ∷ []) block (rules_of (act_at acts x.node) conds) h (one_kid c field acts x conds k) in
    let more : take i kids ++ x ∷ [] ≡ take (i + 1) kids = ap (λ y. take i kids ++ y ∷ []) is ∙ sym (take_more kids i x lt) in
    subst (λ l. AreKidRules c field acts l (block ++ rules_of go conds)) more
    (subst (λ g. AreKidRules c field acts (take i kids ++ x ∷ []) (block ++ rules_of g conds)) (sym does) both)

-- a list is what stands before a place, what stands there, and what stands behind
pub split_at_place : (kids : List Kid) (i : ℕ) (x : Kid) → i < length kids → x ≡ get_or kids i x → kids ≡ take i kids ++ x ∷ drop (i + 1) kids
split_at_place kids i x lt is =
    sym (take-append-drop i kids) ∙ ap (λ l. take i kids ++ l) (drop_more kids i x lt ∙ ap (λ y. y ∷ drop (i + 1) kids) (sym is))

counted_in : (p : Kid → Bool) (kids : List Kid) (i : ℕ) (d : Kid) → i < length kids → p (get_or kids i d) ≡ true → 1 ≤ count_by p kids
counted_in p kids i d lt e =
    let le = get_or-le-sum_by (λ x. cond (p x) 1 0) kids i d lt in
    let one : ◌≡◌ {A = ℕ} (cond (p (get_or kids i d)) 1 0) 1 = ap (λ b. cond b 1 0) e in omega (arith, le, one)

at_most_one : (b : Bool) → cond b 1 0 ≤ 1
at_most_one true = omega arith
at_most_one false = omega arith

some_if_one : (v top : ℕ) (n : ℕ) → n ≡ cond (nat_le v top) 1 0 → 1 ≤ n → v ≤ top
some_if_one v top n e h = elim (cases_Bool (nat_le v top)) [
  | inl y ↦ leb-true v top y
  | inr z ↦ (let bad : n ≡ 0 = e ∙ ap (λ b. cond b 1 0) z in absurd (omega (arith, bad, h)))
]

-- how often a value is had before a kid, by it and behind it
parts_counted : (p : Kid → Bool) (front back : List Kid) (other : Kid) → count_by p (front ++ other ∷ back) ≡ count_by p front + (cond (p other) 1 0 + count_by p back)
parts_counted p front back other =
    sum_by-append (λ x. cond (p x) 1 0) front (other ∷ back) ∙ ap (λ n. count_by p front + n) (sum_by-cons (λ x. cond (p x) 1 0) other back)

had_once : (p : Kid → Bool) (front back : List Kid) (other : Kid) (b : Bool) → count_by p (front ++ other ∷ back) ≡ cond b 1 0 → p other ≡ true
    → (1 ≤ count_by p front → ⊥) × (1 ≤ count_by p back → ⊥)
had_once p front back other b e y =
    let n = parts_counted p front back other in
    let one : ◌≡◌ {A = ℕ} (cond (p other) 1 0) 1 = ap (λ b. cond b 1 0) y in
    let most = at_most_one b in
    ((λ h. absurd (omega (arith, n, one, most, e, h))), (λ h. absurd (omega (arith, n, one, most, e, h))))

-- rules can test for the members of sets beside the one that has the value that no rule can test alone
pub spelled_others : (field : PacketField) (front back : List Kid) (other : Kid) → PartValues (top_of field) (front ++ other ∷ back)
    → ((v : ℕ) → unspelled field ≡ Some v → has other.set v ≡ true)
    → All (λ kid. IsSpelled field kid.set) front × All (λ kid. IsSpelled field kid.set) back
spelled_others field front back other parted has-it = (
  (λ k d lt. record {
    within = λ v e. let n = parts_counted (λ kid. has kid.set v) front back other in let c = counted_in (λ kid. has kid.set v) front k d lt e in
        some_if_one v (top_of field) (count_by (λ kid. has kid.set v) (front ++ other ∷ back)) (parted v) (omega (arith, n, c));
    spelled = λ v e. false_from_ne_true (has (get_or front k d).set v)
        (λ y. (had_once (λ kid. has kid.set v) front back other (nat_le v (top_of field)) (parted v) (has-it v e)).0 (counted_in (λ kid. has kid.set v) front k d lt y));
  }),
  (λ k d lt. record {
    within = λ v e. let n = parts_counted (λ kid. has kid.set v) front back other in let c = counted_in (λ kid. has kid.set v) back k d lt e in
        some_if_one v (top_of field) (count_by (λ kid. has kid.set v) (front ++ other ∷ back)) (parted v) (omega (arith, n, c));
    spelled = λ v e. false_from_ne_true (has (get_or back k d).set v)
        (λ y. (had_once (λ kid. has kid.set v) front back other (nat_le v (top_of field)) (parted v) (has-it v e)).1 (counted_in (λ kid. has kid.set v) back k d lt y));
  }),
)

-- the value that no rule can test alone is one of the field's
unspelled_below : (field : PacketField) (v : ℕ) → unspelled field ≡ Some v → v ≤ top_of field
unspelled_below Proto v e = let s = same_Some 0 v e in omega (arith, s)
unspelled_below Icmp v e = let s = same_Some 255 v e in omega (arith, s)
unspelled_below Dst v e = absurd (none-some v e)
unspelled_below Dport v e = absurd (none-some v e)
unspelled_below Src v e = absurd (none-some v e)
unspelled_below Sport v e = absurd (none-some v e)
unspelled_below Flags v e = absurd (none-some v e)

-- so some kid has it
pub unspelled_there : (field : PacketField) (v : ℕ) (kids : List Kid) → PartValues (top_of field) kids → unspelled field ≡ Some v → list_any (λ kid. has kid.set v) kids ≡ true
unspelled_there field v kids parted e =
    count_any (λ kid. has kid.set v) kids true (parted v ∙ ap (λ b. cond b 1 0) (le-leb v (top_of field) (unspelled_below field v e)))

-- what the kid at a place has to have, for the kids beside it to be spelled
pub spelled_beside : (field : PacketField) (kids : List Kid) (i : ℕ) (d : Kid) → i < length kids → PartValues (top_of field) kids
    → ((v : ℕ) → unspelled field ≡ Some v → list_any (λ kid. has kid.set v) kids ≡ true → (kid : Kid) → slice_get kids i ≡ Some kid → has kid.set v ≡ true)
    → All (λ kid. IsSpelled field kid.set) (take i kids) × All (λ kid. IsSpelled field kid.set) (drop (i + 1) kids)
spelled_beside field kids i d lt parted holds =
    let x : Kid = get_or kids i d in
    let is : x ≡ get_or kids i x = get_or_default kids i d x lt in
    let split = split_at_place kids i x lt is in
    spelled_others field (take i kids) (drop (i + 1) kids) x (subst (λ l. PartValues (top_of field) l) split parted)
    (λ v e. holds v e (unspelled_there field v kids parted e) x (slice_get-get_or kids i d lt))

-- the sets have values up to the greatest alone
pub parts_below : (top : ℕ) (kids : List Kid) → PartValues top kids → All (λ kid. (v : ℕ) → has kid.set v ≡ true → v ≤ top) kids
parts_below top kids parted = λ k d lt v e.
    some_if_one v top (count_by (λ kid. has kid.set v) kids) (parted v) (counted_in (λ kid. has kid.set v) kids k d lt e)
