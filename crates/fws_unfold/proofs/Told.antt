-- Instructions at places use what their drafts use.
use Rattle.std.proofs.Common.{◌≡◌, ℕ, zero, suc, ◌+◌, ◌-◌, ◌<◌, ◌≤◌, Bool, true, false, cond, List, [], ◌∷◌, ◌++◌, length, length-append, append-nil, append_assoc, map, take, drop, arith, refl, sym, ap, ◌∙◌, ⊎_elim, Option, Some, None, nat_lt}
use Rattle.std.specs.Prelude.{nat_le, slice_get, unwrap_or}
use Rattle.std.proofs.lemmas.Bool.{false≢true, le-leb, lt-leb, and_parts, lt-ltb, le-ltb, cases_lt, leb-true}
use Rattle.std.proofs.lemmas.List.{length-map}
use Rattle.std.proofs.Math.Seq.{drop-append_seam}
use Rattle.fws_net.specs.declared.packet.Packet.{Packet}
use Rattle.fws_net.specs.declared.connection.Kind.{Kind}
use Rattle.fws_net.specs.declared.site.Site.{Site}
use Rattle.fws_net.specs.declared.transit.Transit.{Transit}
use Rattle.fws_net.specs.Conditions.{holds}
use Rattle.fws_ifcl.specs.declared.diagram.Chain.{Chain}
use Rattle.fws_ifcl.specs.declared.diagram.Stage.{Stage}
use Rattle.fws_ifcl.specs.declared.diagram.Place.{Place}
use Rattle.fws_ifcl.specs.declared.step.ChainEnd.{ChainEnd}
use Rattle.fws_ifcl.specs.declared.step.ChainEnd.TheVariants.{Accepted, Dropped, Through}
use Rattle.fws_ifcl.specs.Walk.{sees, chain_walk}
use Rattle.fws_ifcl.specs.Uses.{used_back}
use Rattle.fws_flat.specs.declared.code.FlatAct.TheVariants as flat
use Rattle.fws_flat.specs.declared.code.Ins.{Ins}
use Rattle.fws_flat.specs.declared.code.Part.{Part}
use Rattle.fws_flat.specs.declared.step.Step.{Step}
use Rattle.fws_flat.specs.declared.step.Step.TheVariants.{Leave, Onwards}
use Rattle.fws_flat.specs.Walk.{step_of, part_code, sees as part_sees}
use Rattle.fws_flat.specs.Uses.{used_behind, code_used}
use Rattle.fws_unfold.specs.declared.draft.Draft.{Draft}
use Rattle.fws_unfold.specs.declared.draft.DraftAct.{DraftAct}
use Rattle.fws_unfold.specs.declared.draft.DraftAct.TheVariants.{Do, Go}
use Rattle.fws_unfold.specs.declared.placing.Span.{Span}
use Rattle.fws_unfold.specs.Drafts.{Scene, act_fits, all_fit, walk_of, Does}
use Rattle.fws_unfold.specs.Used.{stands_for, used_acted_by, drafted_used, used_of, Uses}
use Rattle.fws_unfold.specs.Blocks.{placed_act, placed, part_of, IsLonger, IsBlock}
use Rattle.fws_unfold.specs.Told.{told_at, told, AreMore, IsToldBlock}
use Rattle.fws_unfold.proofs.Placed.{part_there, part_stays, block_bounds}

pub told-append : (rules : List (Option Place)) (xs ys : List ℕ) → told rules (xs ++ ys) ≡ told rules xs ++ told rules ys
told-append rules [] ys = refl
told-append rules (x ∷ xs) ys = ap (λ zs. told_at rules x ++ zs) (told-append rules xs ys) ∙ sym (append_assoc (told_at rules x) (told rules xs) (told rules ys))

at_head_used : (s : Scene) (ds : List Draft) (n : ℕ) (t : Transit) → length ds ≤ n → drafted_used s ds n t ≡ drafted_used s ds (length ds) t
at_head_used s [] n t le = refl
at_head_used s (d ∷ ds) n t le =
    let here : nat_le n (length ds) ≡ false = lt-leb n (length ds) (omega arith) in
    let there : nat_le (suc (length ds)) (length ds) ≡ false = lt-leb (suc (length ds)) (length ds) (omega arith) in
    rw (here, there) refl

got_there : {X : Type 0} (xs : List X) (n : ℕ) (y : X) (ys : List X) → drop n xs ≡ y ∷ ys → slice_get xs n ≡ Some y
got_there [] zero y ys e = absurd (cc)
got_there [] (suc n) y ys e = absurd (cc)
got_there (x ∷ xs) zero y ys e = cc
got_there (x ∷ xs) (suc n) y ys e = got_there xs n y ys e

dropped_next : {X : Type 0} (xs : List X) (n : ℕ) (y : X) (ys : List X) → drop n xs ≡ y ∷ ys → drop (suc n) xs ≡ ys
dropped_next [] zero y ys e = absurd (cc)
dropped_next [] (suc n) y ys e = absurd (cc)
dropped_next (x ∷ xs) zero y ys e = cc
dropped_next (x ∷ xs) (suc n) y ys e = dropped_next xs n y ys e

abbrev scene : Site → Packet → Kind → Stage → Scene
scene site p k stage = record { site = site; packet = p; kind = k; stage = stage }

abbrev rules_of : List Draft → List (Option Place)
rules_of ds = map (λ (draft : Draft). draft.rule) ds

told_both : (rules : List (Option Place)) (b : Bool) (at : ℕ) (ns ms : List ℕ) (here xs ys : List Place) → told_at rules at ≡ here → told rules ns ≡ xs → told rules ms ≡ ys
    → told rules (cond b (at ∷ ns) ms) ≡ cond b (here ++ xs) ys
told_both rules true at ns ms here xs ys e p q = ap (λ zs. zs ++ told rules ns) e ∙ ap (λ zs. here ++ zs) p
told_both rules false at ns ms here xs ys e p q = q

module _ (rules : List (Option Place)) (site : Site) (p : Packet) (k : Kind) (stage : Stage) (span : Span) (past : ℕ) where
  act_told : (at : ℕ) (ds : List Draft) (act : DraftAct) (t : Transit) → at + 1 + length ds ≡ past → act_fits (length ds) act ≡ true
      → ((to : ℕ) (u : Transit) → to ≤ past → told rules (code_used site p k (part_of span stage) (suc at) (map (placed past) ds) to u) ≡ drafted_used (scene site p k stage) ds (past - to) u)
      → told rules (used_behind (code_used site p k (part_of span stage) (suc at) (map (placed past) ds)) (step_of p k (placed_act past act) t))
      ≡ used_acted_by (drafted_used (scene site p k stage) ds) (length ds) p k act t
  act_told at ds (Go n) t sum fits same =
      let low : n ≤ length ds = leb-true n (length ds) fits in
      let le : past - n ≤ past = omega arith in
      let there : past - (past - n) ≡ n = omega arith in
      same (past - n) t le ∙ ap (λ m. drafted_used (scene site p k stage) ds m t) there
  act_told at ds (Do flat.Accept) t sum fits same = refl
  act_told at ds (Do flat.Drop) t sum fits same = refl
  act_told at ds (Do (flat.Jump to)) t sum fits same = absurd (false≢true fits)
  act_told at ds (Do (flat.Hold b)) t sum fits same = same 0 _ (omega arith) ∙ at_head_used (scene site p k stage) ds (past - 0) _ (omega arith)
  act_told at ds (Do (flat.Src e)) t sum fits same = same 0 _ (omega arith) ∙ at_head_used (scene site p k stage) ds (past - 0) _ (omega arith)
  act_told at ds (Do (flat.Dst e)) t sum fits same = same 0 _ (omega arith) ∙ at_head_used (scene site p k stage) ds (past - 0) _ (omega arith)
  act_told at ds (Do flat.RecSrc) t sum fits same = same 0 _ (omega arith) ∙ at_head_used (scene site p k stage) ds (past - 0) _ (omega arith)
  act_told at ds (Do flat.RecDst) t sum fits same = same 0 _ (omega arith) ∙ at_head_used (scene site p k stage) ds (past - 0) _ (omega arith)
  act_told at ds (Do (flat.AddTag n)) t sum fits same = same 0 _ (omega arith) ∙ at_head_used (scene site p k stage) ds (past - 0) _ (omega arith)
  act_told at ds (Do (flat.OnlyTag n)) t sum fits same = same 0 _ (omega arith) ∙ at_head_used (scene site p k stage) ds (past - 0) _ (omega arith)
  act_told at ds (Do (flat.DelTag n)) t sum fits same = same 0 _ (omega arith) ∙ at_head_used (scene site p k stage) ds (past - 0) _ (omega arith)

  code_told : (at : ℕ) (ds : List Draft) → at + length ds ≡ past → all_fit ds ≡ true → drop at rules ≡ rules_of ds → (to : ℕ) (t : Transit) → to ≤ past
      → told rules (code_used site p k (part_of span stage) at (map (placed past) ds) to t) ≡ drafted_used (scene site p k stage) ds (past - to) t
  code_told at [] sum fits there to t le = refl
  code_told at (d ∷ ds) sum fits there to t le =
      let both = and_parts (act_fits (length ds) d.act) (all_fit ds) fits in
      let more : suc at + length ds ≡ past = omega arith in
      let more_too : at + 1 + length ds ≡ past = omega arith in
      let behind = code_told (suc at) ds more both.1 (dropped_next rules at d.rule (rules_of ds) there) in
      let entry : told_at rules at ≡ stands_for d.rule = ap (λ o. stands_for (unwrap_or o None)) (got_there rules at d.rule (rules_of ds) there) in
      ⊎_elim
      (λ passed.
      let here : nat_lt at to ≡ true = lt-ltb at to passed in
      let over : nat_le (past - to) (length ds) ≡ true = le-leb (past - to) (length ds) (omega arith) in
      rw (here, over) (behind to t le))
      (λ come.
      let here : nat_lt at to ≡ false = le-ltb at to come in
      let over : nat_le (past - to) (length ds) ≡ false = lt-leb (past - to) (length ds) (omega arith) in
      rw (here, over)
      (told_both rules (holds d.cond (sees site k stage t)) at _ _ (stands_for d.rule) _ _ entry
      (act_told at ds d.act t more_too both.0 behind)
      (behind 0 t (omega arith) ∙ at_head_used (scene site p k stage) ds (past - 0) t (omega arith))))
      (cases_lt at to)

nothing_back : (end : ChainEnd) → used_back (λ t. []) end ≡ []
nothing_back (Accepted t) = refl
nothing_back Dropped = refl
nothing_back (Through t) = refl

pub told_made : (chains : List Chain) (c : ℕ) (old code : List Ins) (before rules : List (Option Place)) (ds : List Draft) (span : Span)
    → Does (λ s. walk_of chains s c) 0 [] ds → Uses (λ s. used_of chains s c) (λ s. walk_of chains s c) 0 [] ds
    → code ≡ old ++ map (placed span.past) ds → rules ≡ before ++ map (λ (draft : Draft). draft.rule) ds → length before ≡ length old
    → span.first ≡ length old → span.past ≡ length old + length ds → IsToldBlock chains code rules c span
told_made chains c old code before rules ds span does uses made listed even first past =
    let size : length (map (placed span.past) ds) ≡ length ds = length-map ds (placed span.past) in
    let size_too : length (rules_of ds) ≡ length ds = length-map ds (λ (draft : Draft). draft.rule) in
    let fits : all_fit ds ≡ true = does.fits refl in
    let sum : span.first + length ds ≡ span.past = omega arith in
    let past_too : span.past ≡ length old + length (map (placed span.past) ds) = omega arith in
    let there : (stage : Stage) → part_code code (part_of span stage) ≡ map (placed span.past) ds =
    λ stage. ap (λ code. part_code code (part_of span stage)) made ∙ part_there old (map (placed span.past) ds) (part_of span stage) first past_too in
    let long : length rules ≡ length before + length (rules_of ds) = ap length listed ∙ length-append before (rules_of ds) in
    let at : span.first ≡ length before = omega arith in
    let told_there : drop span.first rules ≡ rules_of ds = ap (λ n. drop n rules) at ∙ ap (drop (length before)) listed ∙ drop-append_seam before (rules_of ds) in
    record {
      listed = omega arith;
      uses = λ site p k stage t.
          ap (λ is. told rules (code_used site p k (part_of span stage) span.first is 0 t)) (there stage)
          ∙ code_told rules site p k stage span span.past span.first ds sum fits told_there 0 t (omega arith)
          ∙ at_head_used (scene site p k stage) ds (span.past - 0) t (omega arith)
          ∙ uses.uses (scene site p k stage) t
          ∙ ap (λ xs. used_of chains (scene site p k stage) c t ++ xs) (nothing_back (chain_walk chains site p k stage (length chains) [] c t))
          ∙ append-nil (used_of chains (scene site p k stage) c t);
    }

-- Code and rules with others behind them

get_stays : (xs ys : List (Option Place)) (n : ℕ) → n < length xs → slice_get (xs ++ ys) n ≡ slice_get xs n
get_stays [] ys n lt = absurd (omega arith)
get_stays (x ∷ xs) ys zero lt = refl
get_stays (x ∷ xs) ys (suc n) lt = get_stays xs ys n (omega arith)

stays_both : (rules longer : List (Option Place)) (passed b : Bool) (at : ℕ) (os ns ms : List ℕ) → told_at longer at ≡ told_at rules at → told longer os ≡ told rules os → told longer ns ≡ told rules ns → told longer ms ≡ told rules ms
    → told longer (cond passed os (cond b (at ∷ ns) ms)) ≡ told rules (cond passed os (cond b (at ∷ ns) ms))
stays_both rules longer true b at os ns ms e o p q = o
stays_both rules longer false true at os ns ms e o p q = ap (λ zs. zs ++ told longer ns) e ∙ ap (λ zs. told_at rules at ++ zs) p
stays_both rules longer false false at os ns ms e o p q = q

module _ (rules more : List (Option Place)) (site : Site) (p : Packet) (k : Kind) (part : Part) where
  behind_stays : (at : ℕ) (is : List Ins) (step : Step)
      → ((to : ℕ) (t : Transit) → told (rules ++ more) (code_used site p k part (suc at) is to t) ≡ told rules (code_used site p k part (suc at) is to t))
      → told (rules ++ more) (used_behind (code_used site p k part (suc at) is) step) ≡ told rules (used_behind (code_used site p k part (suc at) is) step)
  behind_stays at is (Leave end) same = refl
  behind_stays at is (Onwards to t) same = same to t

  told_stays : (at : ℕ) (is : List Ins) → at + length is ≤ length rules → (to : ℕ) (t : Transit)
      → told (rules ++ more) (code_used site p k part at is to t) ≡ told rules (code_used site p k part at is to t)
  told_stays at [] le to t = refl
  told_stays at (i ∷ is) le to t =
      let lt : at < length rules = omega arith in
      let less : suc at + length is ≤ length rules = omega arith in
      let same = told_stays (suc at) is less in
      stays_both rules (rules ++ more) (nat_lt at to) (holds i.cond (part_sees site k part t)) at _ _ _
      (ap (λ o. stands_for (unwrap_or o None)) (get_stays rules more at lt)) (same to t)
      (behind_stays at is (step_of p k i.act t) same) (same 0 t)

taken_short : {X : Type 0} (n : ℕ) (xs : List X) → length (take n xs) ≤ n
taken_short zero xs = let none : length (take zero xs) ≡ 0 = refl in omega arith
taken_short (suc n) [] = omega arith
taken_short (suc n) (x ∷ xs) = let less = taken_short n xs in omega arith

pub told_block_stays : (chains : List Chain) (c : ℕ) (code longer : List Ins) (rules more : List (Option Place)) (span : Span) → IsLonger code longer → AreMore rules more
    → IsBlock chains code c span → IsToldBlock chains code rules c span → IsToldBlock chains longer more c span
told_block_stays chains c code longer rules more span l m block tells =
    let within = block_bounds chains c code span block in
    let same : (stage : Stage) → part_code longer (part_of span stage) ≡ part_code code (part_of span stage) =
    λ stage. ap (λ code. part_code code (part_of span stage)) l.is ∙ part_stays span.first span.past code l.more (within stage).1 in
    let long : length more ≡ length rules + length m.more = ap length m.is ∙ length-append rules m.more in
    record {
      listed = let le = tells.listed in omega arith;
      uses = λ site p k stage t.
          ap (λ is. told more (code_used site p k (part_of span stage) span.first is 0 t)) (same stage)
          ∙ ap (λ (rs : List (Option Place)). told rs (code_used site p k (part_of span stage) span.first (part_code code (part_of span stage)) 0 t)) m.is
          ∙ told_stays rules m.more site p k (part_of span stage) span.first (part_code code (part_of span stage))
          (let short = taken_short (span.past - span.first) (drop span.first code) in let low = (within stage).0 in let le = tells.listed in omega arith) 0 t
          ∙ tells.uses site p k stage t;
    }
