-- What becomes of a packet on its whole way, by what becomes of it before each stage.
use Rattle.std.proofs.Common.{◌≡◌, ℕ, zero, suc, ◌+◌, add-one, ◌<◌, Bool, true, false, cond, ◌||◌, nat_eq, nat_lt, Option, Some, None, option_map, option_and_then, List, [], ◌∷◌, ◌++◌, length, map, drop, get_or, ◌≤◌, slice_get, arith, refl, sym, ◌∙◌, ap}
use Rattle.std.specs.List.{list_any}
use Rattle.std.specs.Option.{option_map_or}
use Rattle.std.proofs.lemmas.List.{drop_all}
use Rattle.std.proofs.lemmas.List.Folds.{list_any-append}
use Rattle.std.proofs.Math.Seq.{drop-cons}
use Rattle.std.proofs.lemmas.Option.{slice_get-map}
use Rattle.fws_exec.specs.declared.progress.Progress.{Progress}
use Rattle.fws_net.specs.declared.packet.Packet.{Packet}
use Rattle.fws_net.specs.declared.packet.State.{State}
use Rattle.fws_net.specs.declared.packet.State.TheVariants as states
use Rattle.fws_net.specs.declared.connection.Kind.{Kind}
use Rattle.fws_net.specs.declared.connection.Kind.TheVariants as kinds
use Rattle.fws_net.specs.declared.exit.Exit.{Exit}
use Rattle.fws_net.specs.declared.exit.Exit.TheVariants as exits
use Rattle.fws_net.specs.declared.outcome.Outcome.{Outcome}
use Rattle.fws_net.specs.declared.outcome.Outcome.TheVariants as outcomes
use Rattle.fws_net.specs.declared.site.Site.{Site}
use Rattle.fws_net.specs.declared.transit.Transit.{Transit}
use Rattle.fws_net.specs.Conditions.{holds}
use Rattle.fws_net.specs.Points.{packet_of}
use Rattle.fws_net.specs.Routes.{is_local, route_of, exit_at}
use Rattle.fws_net.specs.Transits.{entered, with_verdict, onwards, used_onwards, outcome_of}
use Rattle.fws_flat.specs.declared.code.Flat.{Flat}
use Rattle.fws_flat.specs.declared.code.Ins.{Ins}
use Rattle.fws_flat.specs.declared.code.Part.{Part}
use Rattle.fws_flat.specs.declared.step.Step.{Step}
use Rattle.fws_flat.specs.declared.step.Step.TheVariants.{Leave, Onwards}
use Rattle.fws_flat.specs.Uses.{used_behind, code_used, part_used, parts_used, used_places, uses}
use Rattle.fws_flat.specs.Walk.{sees, step_of, stepped, code_walk, part_code, part_walk, parts_walk, way_of, means}
use Rattle.fws_exec.specs.declared.spot.Spot.{Spot}
use Rattle.fws_exec.specs.declared.spot.Spot.TheVariants.{Unused, Dropped, At, Before}
use Rattle.fws_exec.specs.declared.spot.Stage.{Stage}
use Rattle.fws_exec.specs.declared.spot.Stage.TheVariants.{Arrive, Deliver, Forward, Send}
use Rattle.fws_exec.specs.declared.spot.Class.{Class}
use Rattle.fws_exec.specs.Classes.{kind_of, meant, transit_of, future, same_stage}
use Rattle.fws_exec.specs.Courses.{aim_at, caught, fate, fate_behind, left, Aim}
use Rattle.fws_exec.specs.Stages.{part_fate, parts_fate, through_part, through_parts, through_routing, nowhere, passed, spot_outcome, class_outcome}

-- outcomes of packets that passed all stages
pub left_outcome : (k : Kind) (o : Option Transit) → left (λ t. outcome_of k (Some t)) o ≡ outcome_of k o
left_outcome kinds.New None = refl
left_outcome kinds.New (Some t) = refl
left_outcome (kinds.Est r) None = refl
left_outcome (kinds.Est r) (Some t) = refl

-- nothing becomes of packets behind all stages
pub left_dropped : (o : Option Transit) → left (λ t. outcomes.Drop) o ≡ outcomes.Drop
left_dropped None = refl
left_dropped (Some t) = refl

-- Uses on the way

-- what becomes of a packet that uses these instructions, where some are sought, and else comes to an end
abbrev pub ended : (ℕ → Bool) → List ℕ → Outcome → Outcome
ended sought used end = cond (list_any sought used) caught end

-- two stretches of the way
ended_twice : (sought : ℕ → Bool) (xs ys : List ℕ) (end : Outcome) → ended sought xs (ended sought ys end) ≡ ended sought (xs ++ ys) end
ended_twice sought xs ys end = by (list_any sought xs) (list_any sought ys) ∙ ap (λ b. cond b caught end) (sym (list_any-append sought xs ys))
  where
    by : (a b : Bool) → cond a caught (cond b caught end) ≡ cond (a || b) caught end
    by true b = refl
    by false b = refl

-- a packet that leaves a stretch, with what becomes of it behind
ended_left : (sought : ℕ → Bool) (xs : List ℕ) (ys : Transit → List ℕ) (next : Transit → Outcome) (go : Transit → Option Transit) (o : Option Transit)
    → ended sought xs (left (λ t. ended sought (ys t) (left next (go t))) o) ≡ ended sought (xs ++ option_map_or ys o []) (left next (option_and_then go o))
ended_left sought xs ys next go None = ended_twice sought xs [] outcomes.Drop
ended_left sought xs ys next go (Some t) = ended_twice sought xs (ys t) (left next (go t))

-- what becomes of a packet in instructions, by its walk and what this uses
fate_ended : (site : Site) (p : Packet) (k : Kind) (part : Part) (sought : ℕ → Bool) (next : Transit → Outcome) (is : List Ins) (at to : ℕ) (t : Transit)
    → fate site p k part sought next at is to t ≡ ended sought (code_used site p k part at is to t) (left next (code_walk site p k part at is to t))
fate_ended site p k part sought next [] at to t = refl
fate_ended site p k part sought next (i ∷ is) at to t = by (λ from u. fate_ended site p k part sought next is (suc at) from u) (nat_lt at to) (holds i.cond (sees site k part t))
  where
    behind : ((from : ℕ) (u : Transit) → fate site p k part sought next (suc at) is from u ≡ ended sought (code_used site p k part (suc at) is from u) (left next (code_walk site p k part (suc at) is from u))) → (step : Step) → fate_behind next (fate site p k part sought next (suc at) is) step ≡ ended sought (used_behind (code_used site p k part (suc at) is) step) (left next (stepped (code_walk site p k part (suc at) is) step))
    behind rest (Leave end) = refl
    behind rest (Onwards from u) = rest from u

    used : ((from : ℕ) (u : Transit) → fate site p k part sought next (suc at) is from u ≡ ended sought (code_used site p k part (suc at) is from u) (left next (code_walk site p k part (suc at) is from u))) → (s : Bool) (step : Step) → cond s caught (fate_behind next (fate site p k part sought next (suc at) is) step)
        ≡ cond (s || list_any sought (used_behind (code_used site p k part (suc at) is) step)) caught (left next (stepped (code_walk site p k part (suc at) is) step))
    used rest true step = refl
    used rest false step = behind rest step

    by : ((from : ℕ) (u : Transit) → fate site p k part sought next (suc at) is from u ≡ ended sought (code_used site p k part (suc at) is from u) (left next (code_walk site p k part (suc at) is from u))) → (l h : Bool)
        → cond l (fate site p k part sought next (suc at) is to t) (cond h (cond (sought at) caught (fate_behind next (fate site p k part sought next (suc at) is) (step_of p k i.act t))) (fate site p k part sought next (suc at) is 0 t))
        ≡ ended sought (cond l (code_used site p k part (suc at) is to t) (cond h (at ∷ used_behind (code_used site p k part (suc at) is) (step_of p k i.act t)) (code_used site p k part (suc at) is 0 t)))
        (left next (cond l (code_walk site p k part (suc at) is to t) (cond h (stepped (code_walk site p k part (suc at) is) (step_of p k i.act t)) (code_walk site p k part (suc at) is 0 t))))
    by rest true h = rest to t
    by rest false true = used rest (sought at) (step_of p k i.act t)
    by rest false false = rest 0 t

-- in parts
parts_ended : (code : List Ins) (site : Site) (p : Packet) (k : Kind) (sought : ℕ → Bool) (parts : List Part) (next : Transit → Outcome) (t : Transit)
    → parts_fate code site p k sought parts next t ≡ ended sought (parts_used code site p k parts t) (left next (parts_walk code site p k parts t))
parts_ended code site p k sought [] next t = refl
parts_ended code site p k sought (part ∷ parts) next t =
    fate_ended site p k part sought (parts_fate code site p k sought parts next) (part_code code part) part.first 0 (with_verdict part.end t)
    ∙ ap (λ f. ended sought (part_used code site p k part t) (left f (part_walk code site p k part t))) (λ j u. parts_ended code site p k sought parts next u j)
    ∙ ended_left sought (part_used code site p k part t) (parts_used code site p k parts) next (parts_walk code site p k parts) (part_walk code site p k part t)

-- where a packet goes on behind routing
routed : (site : Site) (sought : ℕ → Bool) (next : Transit → Outcome) (entry : ℕ) (du fu : Transit → List ℕ) (d f : Transit → Option Transit) (t : Transit) → nat_eq entry 0 ≡ false
    → cond (is_local site t.packet.dst) (ended sought (du t) (left next (d t))) (cond site.forwarding (ended sought (fu t) (left next (f t))) outcomes.Drop)
    ≡ ended sought (used_onwards du fu (exit_at site entry t.packet.dst) t) (left next (onwards d f (exit_at site entry t.packet.dst) t))
routed site sought next entry du fu d f t e =
    let exit : Bool → Exit = λ b. cond b (cond (is_local site t.packet.dst) (exits.Out 1) (exits.Out (route_of site t.packet.dst))) (cond (is_local site t.packet.dst) exits.Deliver (cond site.forwarding (exits.Out (route_of site t.packet.dst)) exits.Lost)) in
    by (is_local site t.packet.dst) site.forwarding
    ∙ ap (λ b. ended sought (used_onwards du fu (exit b) t) (left next (onwards d f (exit b) t))) (sym e)
  where
    by : (l g : Bool) → cond l (ended sought (du t) (left next (d t))) (cond g (ended sought (fu t) (left next (f t))) outcomes.Drop)
        ≡ ended sought (used_onwards du fu (cond l exits.Deliver (cond g (exits.Out (route_of site t.packet.dst)) exits.Lost)) t) (left next (onwards d f (cond l exits.Deliver (cond g (exits.Out (route_of site t.packet.dst)) exits.Lost)) t))
    by true g = refl
    by false true = refl
    by false false = refl

-- one part more in front
pub part_before : (code : List Ins) (site : Site) (s : State) (stage : Stage) (part : Part) (parts : List Part) (aim : Aim) (p : List ℕ) (other : Stage) (t : Transit)
    → through_part code site s stage part (record { next = through_parts code site s stage parts aim p; sought = aim.sought }) p other t ≡ through_parts code site s stage (part ∷ parts) aim p other t
part_before code site s stage part parts aim p other t = by (same_stage stage other)
  where
    by : (b : Bool)
        → cond b (part_fate code site (packet_of p) (kind_of s p) aim.sought part (λ u. cond b (parts_fate code site (packet_of p) (kind_of s p) aim.sought parts (aim.next other) u) (aim.next other u)) t) (cond b (parts_fate code site (packet_of p) (kind_of s p) aim.sought parts (aim.next other) t) (aim.next other t))
        ≡ cond b (part_fate code site (packet_of p) (kind_of s p) aim.sought part (parts_fate code site (packet_of p) (kind_of s p) aim.sought parts (aim.next other)) t) (aim.next other t)
    by true = refl
    by false = refl

-- no part
pub no_part : (code : List Ins) (site : Site) (s : State) (stage : Stage) (aim : Aim) (p : List ℕ) (other : Stage) (t : Transit) → through_parts code site s stage [] aim p other t ≡ aim.next other t
no_part code site s stage aim p other t = by (same_stage stage other)
  where
    by : (b : Bool) → cond b (aim.next other t) (aim.next other t) ≡ aim.next other t
    by true = refl
    by false = refl

-- the parts from a place on
pub parts_from : (code : List Ins) (site : Site) (s : State) (stage : Stage) (parts : List Part) (k : ℕ) (other_part : Part) (aim : Aim) (p : List ℕ) → k < length parts → (other : Stage) (t : Transit)
    → through_part code site s stage (get_or parts k other_part) (record { next = through_parts code site s stage (drop (k + 1) parts) aim p; sought = aim.sought }) p other t ≡ through_parts code site s stage (drop k parts) aim p other t
parts_from code site s stage parts k other_part aim p within other t =
    part_before code site s stage (get_or parts k other_part) (drop (k + 1) parts) aim p other t
    ∙ ap (λ ps. through_parts code site s stage ps aim p other t) (ap (λ j. get_or parts k other_part ∷ drop j parts) (add-one k) ∙ sym (drop-cons parts k other_part within))

-- no part is left
pub none_left : (code : List Ins) (site : Site) (s : State) (stage : Stage) (parts : List Part) (k : ℕ) (aim : Aim) (p : List ℕ) → length parts ≤ k → (other : Stage) (t : Transit)
    → aim.next other t ≡ through_parts code site s stage (drop k parts) aim p other t
none_left code site s stage parts k aim p past other t =
    sym (ap (λ ps. through_parts code site s stage ps aim p other t) (drop_all k parts past) ∙ no_part code site s stage aim p other t)

-- equal meanings before stages give equal futures
pub future_by : (at : ℕ → Transit → Outcome) (f g : Stage → Transit → Outcome) (cs : List Class) (n : ℕ) (p : List ℕ) → ((other : Stage) (t : Transit) → f other t ≡ g other t) → future at f cs n p ≡ future at g cs n p
future_by at f g cs n p same = by (slice_get cs n)
  where
    spot : (c : Class) (s : Spot) → meant at f s (transit_of c.progress p) ≡ meant at g s (transit_of c.progress p)
    spot c Unused = refl
    spot c Dropped = refl
    spot c (At place) = refl
    spot c (Before other) = same other (transit_of c.progress p)

    by : (o : Option Class) → option_map_or (λ c. meant at f c.spot (transit_of c.progress p)) o outcomes.Drop ≡ option_map_or (λ c. meant at g c.spot (transit_of c.progress p)) o outcomes.Drop
    by None = refl
    by (Some c) = spot c c.spot

-- the outcome of packets of a class, wherever they came in
pub own_outcome : (s : State) (g : Progress) (stage : Stage) (o : Outcome) → ((p : List ℕ) → o ≡ outcome_of (kind_of s p) (Some (transit_of g p))) → o ≡ spot_outcome s g.wrote (Before stage)
own_outcome states.Fresh g stage o h = h []
own_outcome states.Est g stage o h = h []

-- the outcome of a class is what becomes of its packets behind all stages
pub outcome_meant : (s : State) (cs : List Class) (n : ℕ) (p : List ℕ) → n < length cs → slice_get (map (class_outcome s) cs) n ≡ Some (future nowhere (passed s p) cs n p)
outcome_meant s cs n p lt = slice_get-map (class_outcome s) cs n ∙ by (slice_get cs n) (is_some cs n lt)
  where
    is_some : (xs : List Class) (k : ℕ) → k < length xs → (c : Class) × (slice_get xs k ≡ Some c)
    is_some [] k lt = absurd (omega arith)
    is_some (x ∷ xs) zero lt = (x, refl)
    is_some (x ∷ xs) (suc k) lt = is_some xs k (omega arith)

    spot : (s : State) (w : Spot) (g : Progress) → spot_outcome s g.wrote w ≡ meant nowhere (passed s p) w (transit_of g p)
    spot states.Fresh Unused g = refl
    spot states.Fresh Dropped g = refl
    spot states.Fresh (At place) g = refl
    spot states.Fresh (Before stage) g = refl
    spot states.Est Unused g = refl
    spot states.Est Dropped g = refl
    spot states.Est (At place) g = refl
    spot states.Est (Before stage) g = refl

    by : (o : Option Class) → (c : Class) × (o ≡ Some c) → option_map (class_outcome s) o ≡ Some (option_map_or (λ c. meant nowhere (passed s p) c.spot (transit_of c.progress p)) o outcomes.Drop)
    by None e = let h = e.1 in cc
    by (Some c) e = ap Some (spot s c.spot c.progress)

-- what becomes of a packet of the code before each stage, from the last one on
abbrev pub sending : Flat → Site → State → Aim → List ℕ → Stage → Transit → Outcome
sending f site s aim p = through_parts f.code site s Send f.send aim p

abbrev pub forwarding : Flat → Site → State → Aim → List ℕ → Stage → Transit → Outcome
forwarding f site s aim p = through_parts f.code site s Forward f.forward (record { next = sending f site s aim p; sought = aim.sought }) p

abbrev pub delivering : Flat → Site → State → Aim → List ℕ → Stage → Transit → Outcome
delivering f site s aim p = through_parts f.code site s Deliver f.deliver (record { next = forwarding f site s aim p; sought = aim.sought }) p

abbrev pub routing : Flat → Site → State → Aim → List ℕ → Stage → Transit → Outcome
routing f site s aim p = through_routing site (record { next = delivering f site s aim p; sought = aim.sought }) p

abbrev pub arriving : Flat → Site → State → Aim → List ℕ → Stage → Transit → Outcome
arriving f site s aim p = through_parts f.code site s Arrive f.arrive (record { next = routing f site s aim p; sought = aim.sought }) p

-- what becomes of a packet behind routing, and of any packet on its whole way
abbrev pub behind_routing : Flat → Site → Packet → Kind → (ℕ → Bool) → (Transit → Outcome) → Transit → Outcome
behind_routing f site p k sought next t =
    cond (is_local site t.packet.dst) (parts_fate f.code site p k sought f.deliver next t) (cond site.forwarding (parts_fate f.code site p k sought f.forward next t) outcomes.Drop)

abbrev pub way_fate : Flat → Site → Packet → Kind → (ℕ → Bool) → (Transit → Outcome) → Outcome
way_fate f site p k sought next =
    cond (nat_eq p.entry 0) (parts_fate f.code site p k sought f.send next (entered p)) (parts_fate f.code site p k sought f.arrive (behind_routing f site p k sought next) (entered p))

-- what parts of the code use, and how they are left
abbrev used_in : Flat → Site → Packet → Kind → List Part → Transit → List ℕ
used_in f site p k parts t = parts_used f.code site p k parts t

abbrev left_by : Flat → Site → Packet → Kind → List Part → Transit → Option Transit
left_by f site p k parts t = parts_walk f.code site p k parts t

-- it is what the walk makes of it, if it uses nothing that is sought
way_ended : (f : Flat) (site : Site) (p : Packet) (k : Kind) (sought : ℕ → Bool) (next : Transit → Outcome) → way_fate f site p k sought next ≡ ended sought (used_places f site p k) (left next (way_of f site p k))
way_ended f site p k sought next = by (nat_eq p.entry 0) refl
  where
    behind : nat_eq p.entry 0 ≡ false → (t : Transit) → behind_routing f site p k sought next t
        ≡ ended sought (used_onwards (used_in f site p k f.deliver) (used_in f site p k f.forward) (exit_at site p.entry t.packet.dst) t) (left next (onwards (left_by f site p k f.deliver) (left_by f site p k f.forward) (exit_at site p.entry t.packet.dst) t))
    behind e t =
        ap (λ o. cond (is_local site t.packet.dst) o (cond site.forwarding (parts_fate f.code site p k sought f.forward next t) outcomes.Drop)) (parts_ended f.code site p k sought f.deliver next t)
        ∙ ap (λ o. cond (is_local site t.packet.dst) (ended sought (used_in f site p k f.deliver t) (left next (left_by f site p k f.deliver t))) (cond site.forwarding o outcomes.Drop)) (parts_ended f.code site p k sought f.forward next t)
        ∙ routed site sought next p.entry (used_in f site p k f.deliver) (used_in f site p k f.forward) (left_by f site p k f.deliver) (left_by f site p k f.forward) t e

    by : (b : Bool) → nat_eq p.entry 0 ≡ b
        → cond b (parts_fate f.code site p k sought f.send next (entered p)) (parts_fate f.code site p k sought f.arrive (behind_routing f site p k sought next) (entered p))
        ≡ ended sought (cond b (used_in f site p k f.send (entered p)) (used_in f site p k f.arrive (entered p) ++ option_map_or (λ t. used_onwards (used_in f site p k f.deliver) (used_in f site p k f.forward) (exit_at site p.entry t.packet.dst) t) (left_by f site p k f.arrive (entered p)) []))
        (left next (cond b (left_by f site p k f.send (entered p)) (option_and_then (λ t. onwards (left_by f site p k f.deliver) (left_by f site p k f.forward) (exit_at site p.entry t.packet.dst) t) (left_by f site p k f.arrive (entered p)))))
    by true e = parts_ended f.code site p k sought f.send next (entered p)
    by false e =
        parts_ended f.code site p k sought f.arrive (behind_routing f site p k sought next) (entered p)
        ∙ ap (λ go. ended sought (used_in f site p k f.arrive (entered p)) (left go (left_by f site p k f.arrive (entered p)))) (λ j t. behind e t j)
        ∙ ended_left sought (used_in f site p k f.arrive (entered p)) (λ t. used_onwards (used_in f site p k f.deliver) (used_in f site p k f.forward) (exit_at site p.entry t.packet.dst) t) next
        (λ t. onwards (left_by f site p k f.deliver) (left_by f site p k f.forward) (exit_at site p.entry t.packet.dst) t) (left_by f site p k f.arrive (entered p))

-- where nothing is sought
pub means_fate : (f : Flat) (site : Site) (p : Packet) (k : Kind) → way_fate f site p k (λ n. false) (λ t. outcome_of k (Some t)) ≡ means f site p k
means_fate f site p k =
    way_ended f site p k (λ n. false) (λ t. outcome_of k (Some t))
    ∙ ap (λ b. cond b caught (left (λ t. outcome_of k (Some t)) (way_of f site p k))) (never (used_places f site p k))
    ∙ left_outcome k (way_of f site p k)
  where
    never : (xs : List ℕ) → list_any (λ n. false) xs ≡ false
    never [] = refl
    never (x ∷ xs) = never xs

-- and where an instruction is sought, and else nothing becomes of packets
pub uses_fate : (f : Flat) (site : Site) (p : Packet) (k : Kind) (n : ℕ) → cond (uses f site p k n) caught outcomes.Drop ≡ way_fate f site p k (nat_eq n) (λ t. outcomes.Drop)
uses_fate f site p k n =
    sym (way_ended f site p k (nat_eq n) (λ t. outcomes.Drop)
    ∙ ap (λ o. cond (uses f site p k n) caught o) (left_dropped (way_of f site p k)))

-- the same before the stage at which a packet enters
pub means_way : (f : Flat) (site : Site) (s : State) (p : List ℕ)
    → cond (nat_eq (packet_of p).entry 0) (arriving f site s (record { next = passed s p; sought = λ n. false }) p Send (entered (packet_of p))) (arriving f site s (record { next = passed s p; sought = λ n. false }) p Arrive (entered (packet_of p)))
    ≡ means f site (packet_of p) (kind_of s p)
means_way f site s p = means_fate f site (packet_of p) (kind_of s p)

pub uses_way : (f : Flat) (site : Site) (s : State) (n : ℕ) (p : List ℕ)
    → cond (uses f site (packet_of p) (kind_of s p) n) caught outcomes.Drop
    ≡ cond (nat_eq (packet_of p).entry 0) (arriving f site s (aim_at n (λ stage t. outcomes.Drop)) p Send (entered (packet_of p))) (arriving f site s (aim_at n (λ stage t. outcomes.Drop)) p Arrive (entered (packet_of p)))
uses_way f site s n p = uses_fate f site (packet_of p) (kind_of s p) n

-- nothing becomes of packets behind all stages
pub nothing_left : (cs : List Class) (n : ℕ) (p : List ℕ) → future nowhere (λ stage t. outcomes.Drop) cs n p ≡ outcomes.Drop
nothing_left cs n p = by (slice_get cs n)
  where
    spot : (c : Class) (s : Spot) → meant nowhere (λ stage t. outcomes.Drop) s (transit_of c.progress p) ≡ outcomes.Drop
    spot c Unused = refl
    spot c Dropped = refl
    spot c (At place) = refl
    spot c (Before stage) = refl

    by : (o : Option Class) → option_map_or (λ c. meant nowhere (λ stage t. outcomes.Drop) c.spot (transit_of c.progress p)) o outcomes.Drop ≡ outcomes.Drop
    by None = refl
    by (Some c) = spot c c.spot

-- a packet that uses an instruction is told from one that doesn't
abbrev accepts : Outcome → Bool
accepts (outcomes.Accept w) = true
accepts outcomes.Drop = false

told_use : (b : Bool) → accepts (cond b caught outcomes.Drop) ≡ b
told_use true = refl
told_use false = refl

pub same_caught : (a b : Bool) → cond a caught outcomes.Drop ≡ cond b caught outcomes.Drop → a ≡ b
same_caught a b e = sym (told_use a) ∙ ap accepts e ∙ told_use b

pub is_caught : (b : Bool) → cond b caught outcomes.Drop ≡ caught → b ≡ true
is_caught b e = same_caught b true e

pub isnt_caught : (b : Bool) → cond b caught outcomes.Drop ≡ outcomes.Drop → b ≡ false
isnt_caught b e = same_caught b false e

-- flat code by its parts
pub same_flat : (f : Flat) (code : List Ins) (arrive deliver forward send : List Part) → code ≡ f.code → arrive ≡ f.arrive → deliver ≡ f.deliver → forward ≡ f.forward → send ≡ f.send
    → (let g : Flat = record { code = code; arrive = arrive; deliver = deliver; forward = forward; send = send } in g ≡ f)
same_flat f code arrive deliver forward send a b c d e = λ i. record { code = a i; arrive = b i; deliver = c i; forward = d i; send = e i }
