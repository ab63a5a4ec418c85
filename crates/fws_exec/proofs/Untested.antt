-- What stays the same where idle tags aren't put.
use Rattle.std.proofs.Common.{◌≡◌, ℕ, zero, suc, ◌-◌, Bool, true, false, cond, ◌&&◌, ◌||◌, not, nat_eq, nat_lt, nat_le, Some, None, List, [], ◌∷◌, ◌++◌, length, take, drop, refl, sym, ◌∙◌, ap, subst, inl, inr}
use Rattle.std.specs.List.{list_any, list_all, filter}
use Rattle.std.proofs.lemmas.Bool.{cases_Bool, true≢false, false≢true, or_left, or_right, or_parts, not-false, cond-true, cond-false, eqb-true, eq-eqb, ne_eqb}
use Rattle.std.proofs.lemmas.List.{length-map, take-map, drop-map}
use Rattle.std.proofs.lemmas.List.Folds.{list_any-append}
use Rattle.std.proofs.lemmas.Map.Views.{any-filter_same}
use Rattle.fws_net.specs.declared.condition.Lit.{Lit}
use Rattle.fws_net.specs.declared.condition.Test.{Test}
use Rattle.fws_net.specs.declared.condition.Test.TheVariants as tests
use Rattle.fws_net.specs.declared.connection.Kind.{Kind}
use Rattle.fws_net.specs.declared.connection.Kind.TheVariants as kinds
use Rattle.fws_net.specs.declared.outcome.Outcome.{Outcome}
use Rattle.fws_net.specs.declared.outcome.Outcome.TheVariants as outcomes
use Rattle.fws_net.specs.declared.outcome.Rewrite.{Rewrite}
use Rattle.fws_net.specs.declared.packet.Packet.{Packet}
use Rattle.fws_net.specs.declared.site.Site.{Site}
use Rattle.fws_net.specs.declared.transit.Transit.{Transit}
use Rattle.fws_net.specs.declared.view.View.{View}
use Rattle.fws_net.specs.Conditions.{test_holds, lit_holds, holds}
use Rattle.fws_net.specs.Connections.{is_est}
use Rattle.fws_net.specs.Routes.{is_local}
use Rattle.fws_net.specs.Showing.{receiving, sending}
use Rattle.fws_net.specs.Transits.{rewritten, tracked_src, tracked_dst, has_tag, entered, with_verdict, with_src, with_dst, with_tracked_src, with_tracked_dst, with_tag, with_only_tag, without_tag, decided, outcome_of}
use Rattle.fws_flat.specs.declared.code.Flat.{Flat}
use Rattle.fws_flat.specs.declared.code.FlatAct.{FlatAct}
use Rattle.fws_flat.specs.declared.code.FlatAct.TheVariants.{Accept, Drop, Hold, Jump, Src, Dst, RecSrc, RecDst, AddTag, OnlyTag, DelTag}
use Rattle.fws_flat.specs.declared.code.Ins.{Ins}
use Rattle.fws_flat.specs.declared.code.Part.{Part}
use Rattle.fws_flat.specs.Soundness.{act_ok, code_ok, part_ok, flat_ok}
use Rattle.fws_flat.specs.Uses.{uses}
use Rattle.fws_flat.specs.Walk.{sees, step_of, part_code, means}
use Rattle.fws_exec.specs.Courses.{caught, fate, fate_behind, left}
use Rattle.fws_exec.specs.Idle.{asks_for, tests_tag, is_tested, is_idle, puts_idle, act_without_idle, ins_without_idle, without_idle}
use Rattle.fws_exec.specs.Stages.{part_fate, parts_fate}
use Rattle.fws_exec.proofs.Meaning.{behind_routing, means_fate, same_caught, uses_fate, way_fate}

-- two transits that differ in no more than tags that aren't tested
record Agree (tested : ℕ → Bool) (s t : Transit) : Type 0 where
  packet : s.packet ≡ t.packet
  verdict : s.verdict ≡ t.verdict
  wrote : s.wrote ≡ t.wrote
  tags : (n : ℕ) → tested n ≡ true → list_any (nat_eq n) s.tags ≡ list_any (nat_eq n) t.tags

-- what becomes of two such packets is the same
abbrev IsBlind : (ℕ → Bool) → (Transit → Outcome) → (Transit → Outcome) → Type 0
IsBlind tested f g = (s t : Transit) → Agree tested s t → f s ≡ g t

same_transit : (tested : ℕ → Bool) (t : Transit) → Agree tested t t
same_transit tested t = record { packet = refl; verdict = refl; wrote = refl; tags = λ n e. refl }

-- Conditions

-- what is seen of a packet with tags
abbrev view_of : Site → Kind → Part → Packet → List ℕ → View
view_of site k part q ts = record {
  packet = q;
  recv = cond part.shows_recv (receiving q) None;
  xmit = cond part.shows_xmit (sending site q) None;
  outward = part.outward;
  est = is_est k;
  tags = ts;
}

-- a test that asks for no other tags holds alike
test_same : (tested : ℕ → Bool) (site : Site) (k : Kind) (part : Part) (s t : Transit) → Agree tested s t → (test : Test) → ((n : ℕ) → asks_for n test ≡ true → tested n ≡ true)
    → test_holds (sees site k part s) test ≡ test_holds (sees site k part t) test
test_same tested site k part s t a (tests.Tag n) only = a.tags n (only n (eq-eqb n n refl))
test_same tested site k part s t a (tests.Src set) only = ap (λ q. test_holds (view_of site k part q []) (tests.Src set)) a.packet
test_same tested site k part s t a (tests.Dst set) only = ap (λ q. test_holds (view_of site k part q []) (tests.Dst set)) a.packet
test_same tested site k part s t a (tests.Sport set) only = ap (λ q. test_holds (view_of site k part q []) (tests.Sport set)) a.packet
test_same tested site k part s t a (tests.Dport set) only = ap (λ q. test_holds (view_of site k part q []) (tests.Dport set)) a.packet
test_same tested site k part s t a (tests.Proto set) only = ap (λ q. test_holds (view_of site k part q []) (tests.Proto set)) a.packet
test_same tested site k part s t a (tests.Icmp set) only = ap (λ q. test_holds (view_of site k part q []) (tests.Icmp set)) a.packet
test_same tested site k part s t a (tests.Flags mask want) only = ap (λ q. test_holds (view_of site k part q []) (tests.Flags mask want)) a.packet
test_same tested site k part s t a (tests.AnyFlag mask) only = ap (λ q. test_holds (view_of site k part q []) (tests.AnyFlag mask)) a.packet
test_same tested site k part s t a (tests.Recv set) only = ap (λ q. test_holds (view_of site k part q []) (tests.Recv set)) a.packet
test_same tested site k part s t a (tests.Xmit set) only = ap (λ q. test_holds (view_of site k part q []) (tests.Xmit set)) a.packet
test_same tested site k part s t a (tests.Via set) only = ap (λ q. test_holds (view_of site k part q []) (tests.Via set)) a.packet
test_same tested site k part s t a tests.Outward only = refl
test_same tested site k part s t a tests.Est only = refl
test_same tested site k part s t a tests.Never only = refl

-- a condition that tests no other tags holds alike
cond_same : (tested : ℕ → Bool) (site : Site) (k : Kind) (part : Part) (s t : Transit) → Agree tested s t → (lits : List Lit) → ((n : ℕ) → tests_tag n lits ≡ true → tested n ≡ true)
    → holds lits (sees site k part s) ≡ holds lits (sees site k part t)
cond_same tested site k part s t a [] only = refl
cond_same tested site k part s t a (lit ∷ lits) only =
    ap (λ b. cond lit.not (not b) b && holds lits (sees site k part s)) (test_same tested site k part s t a lit.test (λ n e. only n (or_left (asks_for n lit.test) (tests_tag n lits) e)))
    ∙ ap (λ b. lit_holds (sees site k part t) lit && b) (cond_same tested site k part s t a lits (λ n e. only n (or_right (asks_for n lit.test) (tests_tag n lits) e)))

-- Acts

or_false : (x : Bool) → (x || false) ≡ x
or_false true = refl
or_false false = refl

nothing_gained : (x b : Bool) → (b ≡ true → x ≡ true) → x ≡ (x || b)
nothing_gained true b h = refl
nothing_gained false true h = h refl
nothing_gained false false h = refl

abbrev added : ℕ → List ℕ → List ℕ
added n ts = cond (list_any (nat_eq n) ts) ts (ts ++ n ∷ [])

with_tag_is : (n : ℕ) (t : Transit) → with_tag n t ≡ record t { tags = added n t.tags }
with_tag_is n t = by (has_tag n t)
  where
    by : (b : Bool) → cond b t (record t { tags = t.tags ++ n ∷ [] }) ≡ record t { tags = cond b t.tags (t.tags ++ n ∷ []) }
    by true = refl
    by false = refl

-- which tags are there when one is added
any_added : (m n : ℕ) (ts : List ℕ) → list_any (nat_eq m) (added n ts) ≡ (list_any (nat_eq m) ts || nat_eq m n)
any_added m n ts = elim (cases_Bool (list_any (nat_eq n) ts)) [
  | inl e ↦ ap (λ us. list_any (nat_eq m) us) (cond-true (list_any (nat_eq n) ts) ts (ts ++ n ∷ []) e)
      ∙ nothing_gained (list_any (nat_eq m) ts) (nat_eq m n) (λ h. ap (λ j. list_any (nat_eq j) ts) (eqb-true m n h) ∙ e)
  | inr e ↦ ap (λ us. list_any (nat_eq m) us) (cond-false (list_any (nat_eq n) ts) ts (ts ++ n ∷ []) e)
      ∙ list_any-append (nat_eq m) ts (n ∷ []) ∙ ap (λ b. list_any (nat_eq m) ts || b) (or_false (nat_eq m n))
]

-- which tags are there when one is taken away
any_taken : (m n : ℕ) (ts : List ℕ) → list_any (nat_eq m) (filter (λ tag. not (nat_eq n tag)) ts) ≡ (not (nat_eq n m) && list_any (nat_eq m) ts)
any_taken m n ts = any-filter_same (nat_eq m) (λ tag. not (nat_eq n tag)) (not (nat_eq n m)) (λ j e. ap (λ i. not (nat_eq n i)) (sym (eqb-true m j e))) ts

-- a tested tag is another than one that isn't tested
another : (tested : ℕ → Bool) (m n : ℕ) → tested m ≡ true → tested n ≡ false → nat_eq m n ≡ false
another tested m n e f = ne_eqb m n (λ h. true≢false (sym e ∙ ap tested h ∙ f))

another_back : (tested : ℕ → Bool) (m n : ℕ) → tested m ≡ true → tested n ≡ false → nat_eq n m ≡ false
another_back tested m n e f = ne_eqb n m (λ h. true≢false (sym e ∙ ap tested (sym h) ∙ f))

retagged : (tested : ℕ → Bool) (s t : Transit) (xs ys : List ℕ) → Agree tested s t → ((m : ℕ) → tested m ≡ true → list_any (nat_eq m) xs ≡ list_any (nat_eq m) ys) → Agree tested (record s { tags = xs }) (record t { tags = ys })
retagged tested s t xs ys a h = record { packet = a.packet; verdict = a.verdict; wrote = a.wrote; tags = h }

-- a tested tag is added to both
both_added : (tested : ℕ → Bool) (n : ℕ) (s t : Transit) → Agree tested s t → Agree tested (with_tag n s) (with_tag n t)
both_added tested n s t a =
    subst (λ u. Agree tested u (with_tag n t)) (sym (with_tag_is n s)) (subst (λ u. Agree tested (record s { tags = added n s.tags }) u) (sym (with_tag_is n t))
    (retagged tested s t (added n s.tags) (added n t.tags) a (λ m e. any_added m n s.tags ∙ ap (λ b. b || nat_eq m n) (a.tags m e) ∙ sym (any_added m n t.tags))))

-- an idle tag is added to the one, and taken away from the other
idle_added : (tested : ℕ → Bool) (n : ℕ) (s t : Transit) → tested n ≡ false → Agree tested s t → Agree tested (with_tag n s) (without_tag n t)
idle_added tested n s t idle a =
    subst (λ u. Agree tested u (without_tag n t)) (sym (with_tag_is n s))
    (retagged tested s t (added n s.tags) (filter (λ tag. not (nat_eq n tag)) t.tags) a (λ m e.
    any_added m n s.tags ∙ ap (λ b. list_any (nat_eq m) s.tags || b) (another tested m n e idle) ∙ or_false (list_any (nat_eq m) s.tags) ∙ a.tags m e
    ∙ ap (λ b. not b && list_any (nat_eq m) t.tags) (sym (another_back tested m n e idle)) ∙ sym (any_taken m n t.tags)))

-- a step goes on alike with the act that puts no idle tag
step_agrees : (tested : ℕ → Bool) (mark : ℕ) → tested mark ≡ false → (p : Packet) (k : Kind) (next other : Transit → Outcome) → IsBlind tested next other → (go late : ℕ → Transit → Outcome)
    → ((to : ℕ) → IsBlind tested (go to) (late to)) → (act : FlatAct) (s t : Transit) → Agree tested s t
    → fate_behind next go (step_of p k act s) ≡ fate_behind other late (step_of p k (act_without_idle tested mark act) t)
step_agrees tested mark idle p k next other blind go late both Accept s t a = blind s t a
step_agrees tested mark idle p k next other blind go late both Drop s t a = refl
step_agrees tested mark idle p k next other blind go late both (Hold accepts) s t a = both 0 (with_verdict accepts s) (with_verdict accepts t) (record { packet = a.packet; verdict = refl; wrote = a.wrote; tags = a.tags })
step_agrees tested mark idle p k next other blind go late both (Jump to) s t a = both to s t a
step_agrees tested mark idle p k next other blind go late both (Src end) s t a =
    let put : Rewrite → Rewrite = λ w. record w { src = Some end } in
    both 0 (with_src p end s) (with_src p end t) (record { packet = ap (λ w. rewritten p (put w)) a.wrote; verdict = a.verdict; wrote = ap put a.wrote; tags = a.tags })
step_agrees tested mark idle p k next other blind go late both (Dst end) s t a =
    let put : Rewrite → Rewrite = λ w. record w { dst = Some end } in
    both 0 (with_dst p end s) (with_dst p end t) (record { packet = ap (λ w. rewritten p (put w)) a.wrote; verdict = a.verdict; wrote = ap put a.wrote; tags = a.tags })
step_agrees tested mark idle p k next other blind go late both RecSrc s t a = both 0 (with_tracked_src k s) (with_tracked_src k t) (record { packet = ap (λ q. tracked_src k q) a.packet; verdict = a.verdict; wrote = a.wrote; tags = a.tags })
step_agrees tested mark idle p k next other blind go late both RecDst s t a = both 0 (with_tracked_dst k s) (with_tracked_dst k t) (record { packet = ap (λ q. tracked_dst k q) a.packet; verdict = a.verdict; wrote = a.wrote; tags = a.tags })
step_agrees tested mark idle p k next other blind go late both (AddTag n) s t a = by (tested n) refl
  where
    by : (b : Bool) → tested n ≡ b → go 0 (with_tag n s) ≡ fate_behind other late (step_of p k (cond b (AddTag n) (DelTag n)) t)
    by true e = both 0 (with_tag n s) (with_tag n t) (both_added tested n s t a)
    by false e = both 0 (with_tag n s) (without_tag n t) (idle_added tested n s t e a)
step_agrees tested mark idle p k next other blind go late both (OnlyTag n) s t a = by (tested n) refl
  where
    by : (b : Bool) → tested n ≡ b → go 0 (with_only_tag n s) ≡ fate_behind other late (step_of p k (cond b (OnlyTag n) (OnlyTag mark)) t)
    by true e = both 0 (with_only_tag n s) (with_only_tag n t) (retagged tested s t (n ∷ []) (n ∷ []) a (λ m h. refl))
    by false e = both 0 (with_only_tag n s) (with_only_tag mark t) (retagged tested s t (n ∷ []) (mark ∷ []) a (λ m h. ap (λ b. b || false) (another tested m n h e ∙ sym (another tested m mark h idle))))
step_agrees tested mark idle p k next other blind go late both (DelTag n) s t a = both 0 (without_tag n s) (without_tag n t)
    (retagged tested s t (filter (λ tag. not (nat_eq n tag)) s.tags) (filter (λ tag. not (nat_eq n tag)) t.tags) a (λ m e.
    any_taken m n s.tags ∙ ap (λ b. not (nat_eq n m) && b) (a.tags m e) ∙ sym (any_taken m n t.tags)))

-- What becomes of packets

-- where the verdict so far decides
decided_agrees : (tested : ℕ → Bool) (next other : Transit → Outcome) → IsBlind tested next other → (s t : Transit) → Agree tested s t → left next (decided s) ≡ left other (decided t)
decided_agrees tested next other blind s t a = by s.verdict t.verdict a.verdict
  where
    by : (b c : Bool) → b ≡ c → left next (cond b (Some s) None) ≡ left other (cond c (Some t) None)
    by true true e = blind s t a
    by false false e = refl
    by true false e = absurd (true≢false e)
    by false true e = absurd (false≢true e)

-- in instructions that test no other tags
fate_agrees : (tested : ℕ → Bool) (mark : ℕ) → tested mark ≡ false → (site : Site) (p : Packet) (k : Kind) (part : Part) (sought : ℕ → Bool) (next other : Transit → Outcome) → IsBlind tested next other
    → (at : ℕ) (is : List Ins) → ((n : ℕ) → is_tested is n ≡ true → tested n ≡ true) → (to : ℕ) → IsBlind tested (fate site p k part sought next at is to) (fate site p k part sought other at (without_idle tested mark is) to)
fate_agrees tested mark idle site p k part sought next other blind at [] only to s t a = decided_agrees tested next other blind s t a
fate_agrees tested mark idle site p k part sought next other blind at (i ∷ is) only to s t a =
    let both = fate_agrees tested mark idle site p k part sought next other blind (suc at) is (λ n e. only n (or_right (tests_tag n i.cond) (is_tested is n) e)) in
    let met = cond_same tested site k part s t a i.cond (λ n e. only n (or_left (tests_tag n i.cond) (is_tested is n) e)) in
    let step = step_agrees tested mark idle p k next other blind (fate site p k part sought next (suc at) is) (fate site p k part sought other (suc at) (without_idle tested mark is)) both i.act s t a in
    let missed = both 0 s t a in
    let passed = both to s t a in
    λ j. cond (nat_lt at to) (passed j) (cond (met j) (cond (sought at) caught (step j)) (missed j))

either : (x y z : Bool) → (y ≡ true → z ≡ true) → (x || y) ≡ true → (x || z) ≡ true
either true y z h e = refl
either false y z h e = h e

any_of_take : {X : Type 0} (f : X → Bool) (n : ℕ) (xs : List X) → list_any f (take n xs) ≡ true → list_any f xs ≡ true
any_of_take f zero xs e = absurd (false≢true e)
any_of_take f (suc n) [] e = e
any_of_take f (suc n) (x ∷ xs) e = either (f x) (list_any f (take n xs)) (list_any f xs) (any_of_take f n xs) e

any_of_drop : {X : Type 0} (f : X → Bool) (n : ℕ) (xs : List X) → list_any f (drop n xs) ≡ true → list_any f xs ≡ true
any_of_drop f zero xs e = e
any_of_drop f (suc n) [] e = e
any_of_drop f (suc n) (x ∷ xs) e = or_right (f x) (list_any f xs) (any_of_drop f n xs e)

-- the instructions of a part
part_code_is : (tested : ℕ → Bool) (mark : ℕ) (code : List Ins) (part : Part) → part_code (without_idle tested mark code) part ≡ without_idle tested mark (part_code code part)
part_code_is tested mark code part =
    ap (λ is. take (part.past - part.first) is) (drop-map (ins_without_idle tested mark) part.first code) ∙ take-map (ins_without_idle tested mark) (part.past - part.first) (drop part.first code)

part_agrees : (tested : ℕ → Bool) (mark : ℕ) → tested mark ≡ false → (code : List Ins) → ((n : ℕ) → is_tested code n ≡ true → tested n ≡ true) → (site : Site) (p : Packet) (k : Kind) (sought : ℕ → Bool) (part : Part) (next other : Transit → Outcome)
    → IsBlind tested next other → IsBlind tested (part_fate code site p k sought part next) (part_fate (without_idle tested mark code) site p k sought part other)
part_agrees tested mark idle code only site p k sought part next other blind s t a =
    subst (λ is. part_fate code site p k sought part next s ≡ fate site p k part sought other part.first is 0 (with_verdict part.end t)) (sym (part_code_is tested mark code part))
    (fate_agrees tested mark idle site p k part sought next other blind part.first (part_code code part)
    (λ n e. only n (any_of_drop (λ ins. tests_tag n ins.cond) part.first code (any_of_take (λ ins. tests_tag n ins.cond) (part.past - part.first) (drop part.first code) e)))
    0 (with_verdict part.end s) (with_verdict part.end t) (record { packet = a.packet; verdict = refl; wrote = a.wrote; tags = a.tags }))

parts_agree : (tested : ℕ → Bool) (mark : ℕ) → tested mark ≡ false → (code : List Ins) → ((n : ℕ) → is_tested code n ≡ true → tested n ≡ true) → (site : Site) (p : Packet) (k : Kind) (sought : ℕ → Bool) (parts : List Part) (next other : Transit → Outcome)
    → IsBlind tested next other → IsBlind tested (parts_fate code site p k sought parts next) (parts_fate (without_idle tested mark code) site p k sought parts other)
parts_agree tested mark idle code only site p k sought [] next other blind s t a = blind s t a
parts_agree tested mark idle code only site p k sought (part ∷ parts) next other blind s t a =
    part_agrees tested mark idle code only site p k sought part (parts_fate code site p k sought parts next) (parts_fate (without_idle tested mark code) site p k sought parts other)
    (parts_agree tested mark idle code only site p k sought parts next other blind) s t a

way_agrees : (tested : ℕ → Bool) (mark : ℕ) → tested mark ≡ false → (f : Flat) → ((n : ℕ) → is_tested f.code n ≡ true → tested n ≡ true) → (site : Site) (p : Packet) (k : Kind) (sought : ℕ → Bool) (next : Transit → Outcome) → IsBlind tested next next
    → way_fate f site p k sought next ≡ way_fate (record f { code = without_idle tested mark f.code }) site p k sought next
way_agrees tested mark idle f only site p k sought next blind =
    let both = parts_agree tested mark idle f.code only site p k sought in
    let sent = both f.send next next blind (entered p) (entered p) (same_transit tested (entered p)) in
    let arrived = both f.arrive (behind_routing f site p k sought next) (behind_routing (record f { code = without_idle tested mark f.code }) site p k sought next)
    (λ s t a. (
    let delivered = both f.deliver next next blind s t a in
    let forwarded = both f.forward next next blind s t a in
    λ j. cond (is_local site (a.packet j).dst) (delivered j) (cond site.forwarding (forwarded j) outcomes.Drop)))
    (entered p) (entered p) (same_transit tested (entered p)) in
    λ j. cond (nat_eq p.entry 0) (sent j) (arrived j)

-- code that puts no idle tag means the same
pub same_means : (f : Flat) (code late : List Ins) (tested : ℕ → Bool) (mark : ℕ) → code ≡ f.code → ((n : ℕ) → tested n ≡ is_tested code n) → tested mark ≡ false → late ≡ without_idle tested mark code
    → (site : Site) (p : Packet) (k : Kind) → means (record f { code = late }) site p k ≡ means f site p k
same_means f code late tested mark is those idle made site p k =
    ap (λ c. means (record f { code = c }) site p k) (made ∙ ap (λ c. without_idle tested mark c) is)
    ∙ sym (sym (means_fate f site p k)
    ∙ way_agrees tested mark idle f (λ n e. those n ∙ ap (λ c. is_tested c n) is ∙ e) site p k (λ n. false) (λ t. outcome_of k (Some t)) (outcome_blind k)
    ∙ means_fate (record f { code = without_idle tested mark f.code }) site p k)
  where
    outcome_blind : (k : Kind) → IsBlind tested (λ t. outcome_of k (Some t)) (λ t. outcome_of k (Some t))
    outcome_blind kinds.New s t a = ap outcomes.Accept a.wrote
    outcome_blind (kinds.Est r) s t a = refl

-- and the same instructions of it are used
pub same_uses : (f : Flat) (code late : List Ins) (tested : ℕ → Bool) (mark : ℕ) → code ≡ f.code → ((n : ℕ) → tested n ≡ is_tested code n) → tested mark ≡ false → late ≡ without_idle tested mark code
    → (site : Site) (p : Packet) (k : Kind) (n : ℕ) → uses (record f { code = late }) site p k n ≡ uses f site p k n
same_uses f code late tested mark is those idle made site p k n =
    ap (λ c. uses (record f { code = c }) site p k n) (made ∙ ap (λ c. without_idle tested mark c) is)
    ∙ sym (same_caught (uses f site p k n) (uses (record f { code = without_idle tested mark f.code }) site p k n)
    (uses_fate f site p k n
    ∙ way_agrees tested mark idle f (λ m e. those m ∙ ap (λ c. is_tested c m) is ∙ e) site p k (nat_eq n) (λ t. outcomes.Drop) (λ s t a. refl)
    ∙ sym (uses_fate (record f { code = without_idle tested mark f.code }) site p k n)))

-- Code that stays

act_kept : (tested : ℕ → Bool) (mark : ℕ) (act : FlatAct) → is_idle tested act ≡ false → act ≡ act_without_idle tested mark act
act_kept tested mark (AddTag n) e = sym (cond-true (tested n) (AddTag n) (DelTag n) (not-false (tested n) e))
act_kept tested mark (OnlyTag n) e = sym (cond-true (tested n) (OnlyTag n) (OnlyTag mark) (not-false (tested n) e))
act_kept tested mark Accept e = refl
act_kept tested mark Drop e = refl
act_kept tested mark (Hold accepts) e = refl
act_kept tested mark (Jump to) e = refl
act_kept tested mark (Src end) e = refl
act_kept tested mark (Dst end) e = refl
act_kept tested mark RecSrc e = refl
act_kept tested mark RecDst e = refl
act_kept tested mark (DelTag n) e = refl

-- code that puts no idle tag stays as it is
pub code_kept : (tested : ℕ → Bool) (mark : ℕ) (code : List Ins) → puts_idle tested code ≡ false → code ≡ without_idle tested mark code
code_kept tested mark [] e = refl
code_kept tested mark (i ∷ is) e =
    let parts = or_parts (is_idle tested i.act) (puts_idle tested is) e in
    let act : i.act ≡ act_without_idle tested mark i.act = act_kept tested mark i.act parts.0 in
    let rest : is ≡ without_idle tested mark is = code_kept tested mark is parts.1 in
    λ j. record { cond = i.cond; act = act j } ∷ rest j

-- by the tags that the code tests
pub by_code : (whole code late : List Ins) (tested : ℕ → Bool) (mark : ℕ) → code ≡ whole → ((n : ℕ) → tested n ≡ is_tested code n) → late ≡ without_idle tested mark code → late ≡ without_idle (is_tested whole) mark whole
by_code whole code late tested mark is those made =
    let test : tested ≡ is_tested code = λ j n. those n j in
    made ∙ ap (λ h. without_idle h mark code) test ∙ ap (λ c. without_idle (is_tested c) mark c) is

-- Numbers

act_ok_same : (tested : ℕ → Bool) (mark past at : ℕ) (act : FlatAct) → act_ok past at (act_without_idle tested mark act) ≡ act_ok past at act
act_ok_same tested mark past at (AddTag n) = by (tested n)
  where
    by : (b : Bool) → act_ok past at (cond b (AddTag n) (DelTag n)) ≡ true
    by true = refl
    by false = refl
act_ok_same tested mark past at (OnlyTag n) = by (tested n)
  where
    by : (b : Bool) → act_ok past at (cond b (OnlyTag n) (OnlyTag mark)) ≡ true
    by true = refl
    by false = refl
act_ok_same tested mark past at Accept = refl
act_ok_same tested mark past at Drop = refl
act_ok_same tested mark past at (Hold accepts) = refl
act_ok_same tested mark past at (Jump to) = refl
act_ok_same tested mark past at (Src end) = refl
act_ok_same tested mark past at (Dst end) = refl
act_ok_same tested mark past at RecSrc = refl
act_ok_same tested mark past at RecDst = refl
act_ok_same tested mark past at (DelTag n) = refl

code_ok_same : (tested : ℕ → Bool) (mark past at : ℕ) (is : List Ins) → code_ok past at (without_idle tested mark is) ≡ code_ok past at is
code_ok_same tested mark past at [] = refl
code_ok_same tested mark past at (i ∷ is) =
    ap (λ b. b && code_ok past (suc at) (without_idle tested mark is)) (act_ok_same tested mark past at i.act) ∙ ap (λ b. act_ok past at i.act && b) (code_ok_same tested mark past (suc at) is)

part_ok_same : (tested : ℕ → Bool) (mark : ℕ) (code : List Ins) (part : Part) → part_ok (without_idle tested mark code) part ≡ part_ok code part
part_ok_same tested mark code part =
    ap (λ n. nat_le part.first part.past && nat_le part.past n && code_ok part.past part.first (part_code (without_idle tested mark code) part)) (length-map code (ins_without_idle tested mark))
    ∙ ap (λ b. nat_le part.first part.past && nat_le part.past (length code) && b)
    (ap (λ is. code_ok part.past part.first is) (part_code_is tested mark code part) ∙ code_ok_same tested mark part.past part.first (part_code code part))

parts_ok_same : (tested : ℕ → Bool) (mark : ℕ) (code : List Ins) (parts : List Part) → list_all (part_ok (without_idle tested mark code)) parts ≡ list_all (part_ok code) parts
parts_ok_same tested mark code [] = refl
parts_ok_same tested mark code (part ∷ parts) =
    ap (λ b. b && list_all (part_ok (without_idle tested mark code)) parts) (part_ok_same tested mark code part) ∙ ap (λ b. part_ok code part && b) (parts_ok_same tested mark code parts)

-- code that puts no idle tag is right where the code is
pub same_flat_ok : (f : Flat) (code late : List Ins) (tested : ℕ → Bool) (mark : ℕ) → code ≡ f.code → late ≡ without_idle tested mark code → flat_ok (record f { code = late }) ≡ flat_ok f
same_flat_ok f code late tested mark is made =
    ap (λ c. flat_ok (record f { code = c })) (made ∙ ap (λ c. without_idle tested mark c) is)
    ∙ by (parts_ok_same tested mark f.code f.arrive) (parts_ok_same tested mark f.code f.deliver) (parts_ok_same tested mark f.code f.forward) (parts_ok_same tested mark f.code f.send)
  where
    by : {a b c d e f g h : Bool} → a ≡ b → c ≡ d → e ≡ f → g ≡ h → (a && c && e && g) ≡ (b && d && f && h)
    by arrive deliver forward send = λ i. arrive i && deliver i && forward i && send i
