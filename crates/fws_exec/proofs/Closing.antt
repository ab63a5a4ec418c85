-- What becomes of packets on ways on which every packet is dropped.
use Rattle.std.proofs.Common.{◌≡◌, ℕ, suc, max, ◌≤◌, Bool, true, false, cond, ◌&&◌, ◌||◌, not, nat_eq, nat_lt, nat_le, Option, Some, None, option_and_then, List, [], ◌∷◌, ◌++◌, arith, refl, sym, ◌∙◌, ap, subst, inl, inr}
use Rattle.std.proofs.lemmas.Bool.{false≢true, and_parts, or_cases, or_left, or_right, cond-true, cond-false, le-ltb, leb-true}
use Rattle.fws_net.specs.declared.condition.Lit.{Lit}
use Rattle.fws_net.specs.declared.condition.Test.{Test}
use Rattle.fws_net.specs.declared.condition.Test.TheVariants as tests
use Rattle.fws_net.specs.declared.connection.Kind.{Kind}
use Rattle.fws_net.specs.declared.exit.Exit.{Exit}
use Rattle.fws_net.specs.declared.exit.Exit.TheVariants as exits
use Rattle.fws_net.specs.declared.packet.Packet.{Packet}
use Rattle.fws_net.specs.declared.packet.State.{State}
use Rattle.fws_net.specs.declared.packet.State.TheVariants as states
use Rattle.fws_net.specs.declared.site.Site.{Site}
use Rattle.fws_net.specs.declared.transit.Transit.{Transit}
use Rattle.fws_net.specs.declared.view.View.{View}
use Rattle.fws_net.specs.Conditions.{test_holds, lit_holds, holds}
use Rattle.fws_net.specs.Connections.{is_est}
use Rattle.fws_net.specs.Points.{packet_of}
use Rattle.fws_net.specs.Routes.{exit_at}
use Rattle.fws_net.specs.Transits.{has_tag, entered, with_verdict, with_src, with_dst, with_tracked_src, with_tracked_dst, with_tag, with_only_tag, without_tag, onwards, outcome_of}
use Rattle.fws_flat.specs.declared.code.Flat.{Flat}
use Rattle.fws_flat.specs.declared.code.FlatAct.{FlatAct}
use Rattle.fws_flat.specs.declared.code.FlatAct.TheVariants.{Accept, Drop, Hold, Jump, Src, Dst, RecSrc, RecDst, AddTag, OnlyTag, DelTag}
use Rattle.fws_flat.specs.declared.code.Ins.{Ins}
use Rattle.fws_flat.specs.declared.code.Part.{Part}
use Rattle.fws_flat.specs.Walk.{sees, step_of, stepped, code_walk, part_code, part_walk, parts_walk, way_of, means}
use Rattle.fws_exec.specs.declared.closed.Outlook.TheVariants.{Closed, Further}
use Rattle.fws_exec.specs.declared.closed.Parts.{Parts}
use Rattle.fws_exec.specs.Classes.{kind_of}
use Rattle.fws_exec.specs.Closed.{is_established, asks_other, is_for_others, is_always, outlook_behind, drops_behind, drops, is_closed_part, is_closed, way_along, flat_along}

-- Conditions

-- a literal that asks for packets of the other kind fails
other_fails : (v : View) (negated : Bool) (test : Test) → asks_other v.est negated test ≡ true → cond negated (not (test_holds v test)) (test_holds v test) ≡ false
other_fails v negated tests.Est h = by negated v.est h
  where
    by : (negated est : Bool) → cond negated est (not est) ≡ true → cond negated (not est) est ≡ false
    by true true h = refl
    by true false h = absurd (false≢true h)
    by false true h = absurd (false≢true h)
    by false false h = refl
other_fails v negated (tests.Tag n) h = absurd (false≢true h)
other_fails v negated (tests.Src set) h = absurd (false≢true h)
other_fails v negated (tests.Dst set) h = absurd (false≢true h)
other_fails v negated (tests.Sport set) h = absurd (false≢true h)
other_fails v negated (tests.Dport set) h = absurd (false≢true h)
other_fails v negated (tests.Proto set) h = absurd (false≢true h)
other_fails v negated (tests.Icmp set) h = absurd (false≢true h)
other_fails v negated (tests.Flags mask want) h = absurd (false≢true h)
other_fails v negated (tests.AnyFlag mask) h = absurd (false≢true h)
other_fails v negated (tests.Recv set) h = absurd (false≢true h)
other_fails v negated (tests.Xmit set) h = absurd (false≢true h)
other_fails v negated (tests.Via set) h = absurd (false≢true h)
other_fails v negated tests.Outward h = absurd (false≢true h)
other_fails v negated tests.Never h = absurd (false≢true h)

-- so does a condition with such a literal
others_fail : (v : View) (lits : List Lit) → is_for_others v.est lits ≡ true → holds lits v ≡ false
others_fail v [] h = absurd (false≢true h)
others_fail v (lit ∷ lits) h = elim (or_cases (asks_other v.est lit.not lit.test) (is_for_others v.est lits) h) [
  | inl e ↦ ap (λ b. b && holds lits v) (other_fails v lit.not lit.test e)
  | inr e ↦ ap (λ b. lit_holds v lit && b) (others_fail v lits e) ∙ and_false (lit_holds v lit)
]
  where
    and_false : (b : Bool) → (b && false) ≡ false
    and_false true = refl
    and_false false = refl

-- a condition that asks nothing holds
always_holds : (v : View) (lits : List Lit) → is_always lits ≡ true → holds lits v ≡ true
always_holds v [] h = refl
always_holds v (lit ∷ lits) h = absurd (false≢true h)

-- In a part

-- none is left, whether packets pass over an instruction, meet its condition or don't
none_left : (passed met : Bool) (x y z : Option Transit) → x ≡ None → y ≡ None → z ≡ None → cond passed x (cond met y z) ≡ None
none_left true met x y z a b c = a
none_left false true x y z a b c = b
none_left false false x y z a b c = c

tagged_verdict : (n : ℕ) (t : Transit) → (with_tag n t).verdict ≡ t.verdict
tagged_verdict n t = by (has_tag n t)
  where
    by : (b : Bool) → (cond b t (record t { tags = t.tags ++ n ∷ [] })).verdict ≡ t.verdict
    by true = refl
    by false = refl

-- packets of which so much is told are dropped by what stands from a place on
abbrev Drops : (Bool → ℕ → Bool) → (ℕ → Transit → Option Transit) → Type 0
Drops told go = (accepts : Bool) (furthest to : ℕ) (t : Transit) → told accepts furthest ≡ true → to ≤ furthest → (t.verdict ≡ true → accepts ≡ true) → go to t ≡ None

-- an instruction and what stands behind it
act_drops : (p : Packet) (k : Kind) (at : ℕ) (always met : Bool) → (always ≡ true → met ≡ true) → (told : Bool → ℕ → Bool) (go : ℕ → Transit → Option Transit) → Drops told go
    → (act : FlatAct) (accepts : Bool) (furthest to : ℕ) (t : Transit) → drops_behind told (outlook_behind always at accepts furthest act) ≡ true → to ≤ furthest → (t.verdict ≡ true → accepts ≡ true)
    → cond (nat_lt at to) (go to t) (cond met (stepped go (step_of p k act t)) (go 0 t)) ≡ None
act_drops p k at always met holds told go later Accept accepts furthest to t h le v = absurd (false≢true h)
act_drops p k at always met holds told go later Drop accepts furthest to t h le v = by (always && nat_le furthest at) refl h
  where
    by : (b : Bool) → (always && nat_le furthest at) ≡ b → drops_behind told (cond b Closed (Further accepts furthest)) ≡ true → cond (nat_lt at to) (go to t) (cond met None (go 0 t)) ≡ None
    by true e h =
        let both = and_parts always (nat_le furthest at) e in
        let near : furthest ≤ at = leb-true furthest at both.1 in
        cond-false (nat_lt at to) (go to t) (cond met None (go 0 t)) (le-ltb at to (omega arith)) ∙ cond-true met None (go 0 t) (holds both.0)
    by false e h = none_left (nat_lt at to) met (go to t) None (go 0 t) (later accepts furthest to t h le v) refl (later accepts furthest 0 t h (omega arith) v)
act_drops p k at always met holds told go later (Hold accept) accepts furthest to t h le v =
    none_left (nat_lt at to) met (go to t) (go 0 (with_verdict accept t)) (go 0 t)
    (later (accepts || accept) furthest to t h le (λ e. or_left accepts accept (v e)))
    (later (accepts || accept) furthest 0 (with_verdict accept t) h (omega arith) (λ e. or_right accepts accept e))
    (later (accepts || accept) furthest 0 t h (omega arith) (λ e. or_left accepts accept (v e)))
act_drops p k at always met holds told go later (Jump there) accepts furthest to t h le v =
    none_left (nat_lt at to) met (go to t) (go there t) (go 0 t)
    (later accepts (max furthest there) to t h (omega arith) v)
    (later accepts (max furthest there) there t h (omega arith) v)
    (later accepts (max furthest there) 0 t h (omega arith) v)
act_drops p k at always met holds told go later (Src end) accepts furthest to t h le v =
    none_left (nat_lt at to) met (go to t) (go 0 (with_src p end t)) (go 0 t) (later accepts furthest to t h le v) (later accepts furthest 0 (with_src p end t) h (omega arith) v) (later accepts furthest 0 t h (omega arith) v)
act_drops p k at always met holds told go later (Dst end) accepts furthest to t h le v =
    none_left (nat_lt at to) met (go to t) (go 0 (with_dst p end t)) (go 0 t) (later accepts furthest to t h le v) (later accepts furthest 0 (with_dst p end t) h (omega arith) v) (later accepts furthest 0 t h (omega arith) v)
act_drops p k at always met holds told go later RecSrc accepts furthest to t h le v =
    none_left (nat_lt at to) met (go to t) (go 0 (with_tracked_src k t)) (go 0 t) (later accepts furthest to t h le v) (later accepts furthest 0 (with_tracked_src k t) h (omega arith) v) (later accepts furthest 0 t h (omega arith) v)
act_drops p k at always met holds told go later RecDst accepts furthest to t h le v =
    none_left (nat_lt at to) met (go to t) (go 0 (with_tracked_dst k t)) (go 0 t) (later accepts furthest to t h le v) (later accepts furthest 0 (with_tracked_dst k t) h (omega arith) v) (later accepts furthest 0 t h (omega arith) v)
act_drops p k at always met holds told go later (AddTag n) accepts furthest to t h le v =
    none_left (nat_lt at to) met (go to t) (go 0 (with_tag n t)) (go 0 t) (later accepts furthest to t h le v) (later accepts furthest 0 (with_tag n t) h (omega arith) (λ e. v (sym (tagged_verdict n t) ∙ e))) (later accepts furthest 0 t h (omega arith) v)
act_drops p k at always met holds told go later (OnlyTag n) accepts furthest to t h le v =
    none_left (nat_lt at to) met (go to t) (go 0 (with_only_tag n t)) (go 0 t) (later accepts furthest to t h le v) (later accepts furthest 0 (with_only_tag n t) h (omega arith) v) (later accepts furthest 0 t h (omega arith) v)
act_drops p k at always met holds told go later (DelTag n) accepts furthest to t h le v =
    none_left (nat_lt at to) met (go to t) (go 0 (without_tag n t)) (go 0 t) (later accepts furthest to t h le v) (later accepts furthest 0 (without_tag n t) h (omega arith) v) (later accepts furthest 0 t h (omega arith) v)

-- instructions from a place on
code_drops : (site : Site) (p : Packet) (k : Kind) (part : Part) (at : ℕ) (is : List Ins) → Drops (drops (is_est k) at is) (code_walk site p k part at is)
code_drops site p k part at [] accepts furthest to t h le v = by t.verdict refl
  where
    no : (b : Bool) → not b ≡ true → b ≡ true → ⊥
    no true h e = false≢true h
    no false h e = false≢true e

    by : (b : Bool) → t.verdict ≡ b → cond b (Some t) None ≡ None
    by true e = absurd (no accepts h (v e))
    by false e = refl
code_drops site p k part at (i ∷ is) accepts furthest to t h le v = by (code_drops site p k part (suc at) is) (is_for_others (is_est k) i.cond) refl h
  where
    by : Drops (drops (is_est k) (suc at) is) (code_walk site p k part (suc at) is) → (b : Bool) → is_for_others (is_est k) i.cond ≡ b
        → drops_behind (drops (is_est k) (suc at) is) (cond b (Further accepts furthest) (outlook_behind (is_always i.cond) at accepts furthest i.act)) ≡ true
        → code_walk site p k part at (i ∷ is) to t ≡ None
    by later true e h =
        ap (λ b. cond (nat_lt at to) (code_walk site p k part (suc at) is to t) (cond b (stepped (code_walk site p k part (suc at) is) (step_of p k i.act t)) (code_walk site p k part (suc at) is 0 t))) (others_fail (sees site k part t) i.cond e)
        ∙ none_left (nat_lt at to) false (code_walk site p k part (suc at) is to t) None (code_walk site p k part (suc at) is 0 t)
        (later accepts furthest to t h le v) refl (later accepts furthest 0 t h (omega arith) v)
    by later false e h =
        act_drops p k at (is_always i.cond) (holds i.cond (sees site k part t)) (always_holds (sees site k part t) i.cond)
        (drops (is_est k) (suc at) is) (code_walk site p k part (suc at) is) later i.act accepts furthest to t h le v

-- Along a way

part_drops : (code : List Ins) (site : Site) (p : Packet) (k : Kind) (part : Part) → is_closed_part (is_est k) code part ≡ true → (t : Transit) → part_walk code site p k part t ≡ None
part_drops code site p k part h t = code_drops site p k part part.first (part_code code part) part.end 0 0 (with_verdict part.end t) h (omega arith) (λ e. e)

parts_drop : (code : List Ins) (site : Site) (p : Packet) (k : Kind) (parts : List Part) → is_closed (is_est k) code parts ≡ true → (t : Transit) → parts_walk code site p k parts t ≡ None
parts_drop code site p k [] h t = absurd (false≢true h)
parts_drop code site p k (part ∷ parts) h t = elim (or_cases (is_closed_part (is_est k) code part) (is_closed (is_est k) code parts) h) [
  | inl e ↦ ap (λ o. option_and_then (parts_walk code site p k parts) o) (part_drops code site p k part e t)
  | inr e ↦ by (parts_drop code site p k parts e) (part_walk code site p k part t)
]
  where
    by : ((t : Transit) → parts_walk code site p k parts t ≡ None) → (o : Option Transit) → option_and_then (parts_walk code site p k parts) o ≡ None
    by all None = refl
    by all (Some u) = all u

-- a way along parts that are told to drop every packet, or not
same_way : (code : List Ins) (site : Site) (p : Packet) (k : Kind) (parts : List Part) (closed : Bool) → (closed ≡ true → (t : Transit) → parts_walk code site p k parts t ≡ None)
    → (t : Transit) → parts_walk code site p k (way_along closed parts) t ≡ parts_walk code site p k parts t
same_way code site p k parts true h t = sym (h refl t)
same_way code site p k parts false h t = refl

-- Behind routing

-- what becomes of packets that come to routing, along these parts
abbrev onward : List Ins → Site → Packet → Kind → List Part → List Part → Transit → Option Transit
onward code site p k deliver forward t = onwards (parts_walk code site p k deliver) (parts_walk code site p k forward) (exit_at site p.entry t.packet.dst) t

-- each is dropped, where those that are delivered and those that are forwarded are
none_onward : (code : List Ins) (site : Site) (p : Packet) (k : Kind) (deliver forward : List Part) → (is_closed (is_est k) code deliver && is_closed (is_est k) code forward) ≡ true
    → (o : Option Transit) → option_and_then (onward code site p k deliver forward) o ≡ None
none_onward code site p k deliver forward h None = refl
none_onward code site p k deliver forward h (Some t) = by (exit_at site p.entry t.packet.dst)
  where
    both : (is_closed (is_est k) code deliver ≡ true) × (is_closed (is_est k) code forward ≡ true)
    both = and_parts (is_closed (is_est k) code deliver) (is_closed (is_est k) code forward) h

    by : (exit : Exit) → onwards (parts_walk code site p k deliver) (parts_walk code site p k forward) exit t ≡ None
    by exits.Deliver = parts_drop code site p k deliver both.0 t
    by (exits.Out entry) = parts_drop code site p k forward both.1 t
    by exits.Lost = refl

-- it is the same along parts with the same walks
same_onward : (code : List Ins) (site : Site) (p : Packet) (k : Kind) (deliver forward deliver' forward' : List Part)
    → ((t : Transit) → parts_walk code site p k deliver t ≡ parts_walk code site p k deliver' t) → ((t : Transit) → parts_walk code site p k forward t ≡ parts_walk code site p k forward' t)
    → (o : Option Transit) → option_and_then (onward code site p k deliver forward) o ≡ option_and_then (onward code site p k deliver' forward') o
same_onward code site p k deliver forward deliver' forward' d f None = refl
same_onward code site p k deliver forward deliver' forward' d f (Some t) = by (exit_at site p.entry t.packet.dst)
  where
    by : (exit : Exit) → onwards (parts_walk code site p k deliver) (parts_walk code site p k forward) exit t ≡ onwards (parts_walk code site p k deliver') (parts_walk code site p k forward') exit t
    by exits.Deliver = d t
    by (exits.Out entry) = f t
    by exits.Lost = refl

-- The whole way

-- an arriving packet, where no more ways are told to drop every packet than do so
arriving_same : (code : List Ins) (site : Site) (p : Packet) (k : Kind) (arrive deliver forward : List Part) (arrived : Bool)
    → (arrived ≡ true → (is_closed (is_est k) code arrive || (is_closed (is_est k) code deliver && is_closed (is_est k) code forward)) ≡ true)
    → (t : Transit)
    → option_and_then (onward code site p k (way_along (is_closed (is_est k) code deliver) deliver) (way_along (is_closed (is_est k) code forward) forward)) (parts_walk code site p k (way_along arrived arrive) t)
    ≡ option_and_then (onward code site p k deliver forward) (parts_walk code site p k arrive t)
arriving_same code site p k arrive deliver forward true tells t = elim (or_cases (is_closed (is_est k) code arrive) (is_closed (is_est k) code deliver && is_closed (is_est k) code forward) (tells refl)) [
  | inl e ↦ sym (ap (λ o. option_and_then (onward code site p k deliver forward) o) (parts_drop code site p k arrive e t))
  | inr e ↦ sym (none_onward code site p k deliver forward e (parts_walk code site p k arrive t))
]
arriving_same code site p k arrive deliver forward false tells t =
    same_onward code site p k (way_along (is_closed (is_est k) code deliver) deliver) (way_along (is_closed (is_est k) code forward) forward) deliver forward
    (same_way code site p k deliver (is_closed (is_est k) code deliver) (parts_drop code site p k deliver)) (same_way code site p k forward (is_closed (is_est k) code forward) (parts_drop code site p k forward))
    (parts_walk code site p k arrive t)

-- flat code along ways of which these are told to drop every packet
abbrev along : List Ins → Flat → Bool → Bool → Bool → Bool → Flat
along code f arrived delivered forwarded sent =
    record { code = code; arrive = way_along arrived f.arrive; deliver = way_along delivered f.deliver; forward = way_along forwarded f.forward; send = way_along sent f.send }

whole_same : (code : List Ins) (f : Flat) (site : Site) (p : Packet) (k : Kind) (arrived : Bool)
    → (arrived ≡ true → (is_closed (is_est k) code f.arrive || (is_closed (is_est k) code f.deliver && is_closed (is_est k) code f.forward)) ≡ true)
    → way_of (along code f arrived (is_closed (is_est k) code f.deliver) (is_closed (is_est k) code f.forward) (is_closed (is_est k) code f.send)) site p k ≡ way_of (record f { code = code }) site p k
whole_same code f site p k arrived tells = by (nat_eq p.entry 0)
  where
    by : (b : Bool)
        → cond b (parts_walk code site p k (way_along (is_closed (is_est k) code f.send) f.send) (entered p))
        (option_and_then (onward code site p k (way_along (is_closed (is_est k) code f.deliver) f.deliver) (way_along (is_closed (is_est k) code f.forward) f.forward)) (parts_walk code site p k (way_along arrived f.arrive) (entered p)))
        ≡ cond b (parts_walk code site p k f.send (entered p)) (option_and_then (onward code site p k f.deliver f.forward) (parts_walk code site p k f.arrive (entered p)))
    by true = same_way code site p k f.send (is_closed (is_est k) code f.send) (parts_drop code site p k f.send) (entered p)
    by false = arriving_same code site p k f.arrive f.deliver f.forward arrived tells (entered p)

-- packets of a point are of the kind that the state says
kind_told : (s : State) (p : List ℕ) → is_est (kind_of s p) ≡ is_established s
kind_told states.Fresh p = refl
kind_told states.Est p = refl

-- whether parts of the code are told to drop every packet of the state, and the way along them
pub closed_is : (code : List Ins) (s : State) (closed established : Bool) (parts list : List Part) → closed ≡ is_closed established code parts → established ≡ is_established s → parts ≡ list → closed ≡ is_closed (is_established s) code list
closed_is code s closed established parts list e f g = e ∙ ap (λ b. is_closed b code parts) f ∙ ap (is_closed (is_established s) code) g

pub way_is : (closed told : Bool) (way parts list : List Part) → way ≡ way_along closed parts → closed ≡ told → parts ≡ list → way ≡ way_along told list
way_is closed told way parts list e f g = e ∙ ap (λ b. way_along b parts) f ∙ ap (way_along told) g

-- the parts that ways are told to have, by which of them drop every packet
pub record AreAlong (code : List Ins) (f : Flat) (s : State) (parts : Parts) : Type 0 where
  pub arrived : Bool
  pub arrive : parts.arrive.now ≡ way_along arrived f.arrive
  pub tells : arrived ≡ true → (is_closed (is_established s) code f.arrive || (is_closed (is_established s) code f.deliver && is_closed (is_established s) code f.forward)) ≡ true
  pub deliver : parts.deliver.now ≡ way_along (is_closed (is_established s) code f.deliver) f.deliver
  pub forward : parts.forward.now ≡ way_along (is_closed (is_established s) code f.forward) f.forward
  pub send : parts.send.now ≡ way_along (is_closed (is_established s) code f.send) f.send

-- such code by these ways
along_is : (code : List Ins) (f : Flat) (s : State) (parts : Parts) (a : AreAlong code f s parts)
    → flat_along code parts ≡ along code f a.arrived (is_closed (is_established s) code f.deliver) (is_closed (is_established s) code f.forward) (is_closed (is_established s) code f.send)
along_is code f s parts a = λ i. record { code = code; arrive = a.arrive i; deliver = a.deliver i; forward = a.forward i; send = a.send i }

pub along_means : (code : List Ins) (f : Flat) (s : State) (parts : Parts) → AreAlong code f s parts
    → (site : Site) (p : List ℕ) → means (flat_along code parts) site (packet_of p) (kind_of s p) ≡ means (record f { code = code }) site (packet_of p) (kind_of s p)
along_means code f s parts a site p =
    ap (λ g. means g site (packet_of p) (kind_of s p)) (along_is code f s parts a)
    ∙ ap (outcome_of (kind_of s p)) (by (is_established s) (kind_told s p) a.tells)
  where
    by : (b : Bool) → is_est (kind_of s p) ≡ b → (a.arrived ≡ true → (is_closed b code f.arrive || (is_closed b code f.deliver && is_closed b code f.forward)) ≡ true)
        → way_of (along code f a.arrived (is_closed b code f.deliver) (is_closed b code f.forward) (is_closed b code f.send)) site (packet_of p) (kind_of s p)
        ≡ way_of (record f { code = code }) site (packet_of p) (kind_of s p)
    by b e tells =
        ap (λ d. way_of (along code f a.arrived (is_closed d code f.deliver) (is_closed d code f.forward) (is_closed d code f.send)) site (packet_of p) (kind_of s p)) (sym e)
        ∙ whole_same code f site (packet_of p) (kind_of s p) a.arrived
        (subst (λ d. a.arrived ≡ true → (is_closed d code f.arrive || (is_closed d code f.deliver && is_closed d code f.forward)) ≡ true) (sym e) tells)
