-- Instructions at places do what their drafts do.
use Rattle.std.proofs.Common.{◌≡◌, ℕ, zero, suc, ◌+◌, ◌-◌, ◌≤◌, Bool, true, false, cond, ◌&&◌, List, [], ◌∷◌, ◌++◌, length, length-append, map, take, drop, arith, refl, ap, ◌∙◌, ⊎_elim, nat_lt}
use Rattle.std.specs.Prelude.{nat_le}
use Rattle.std.proofs.lemmas.Bool.{false≢true, le-leb, lt-leb, and_parts, and_from, lt-ltb, le-ltb, cases_lt, leb-true}
use Rattle.std.proofs.lemmas.List.{length-map}
use Rattle.std.proofs.Math.Seq.{drop-append_seam}
use Rattle.fws_net.specs.declared.packet.Packet.{Packet}
use Rattle.fws_net.specs.declared.connection.Kind.{Kind}
use Rattle.fws_net.specs.declared.site.Site.{Site}
use Rattle.fws_net.specs.declared.transit.Transit.{Transit}
use Rattle.fws_net.specs.Conditions.{holds}
use Rattle.fws_net.specs.Transits.{decided}
use Rattle.fws_ifcl.specs.declared.diagram.Chain.{Chain}
use Rattle.fws_ifcl.specs.declared.diagram.Stage.{Stage}
use Rattle.fws_ifcl.specs.declared.step.ChainEnd.{ChainEnd}
use Rattle.fws_ifcl.specs.declared.step.ChainEnd.TheVariants.{Accepted, Dropped, Through}
use Rattle.fws_ifcl.specs.Walk.{sees, chain_walk, stage_end}
use Rattle.fws_flat.specs.declared.code.FlatAct.TheVariants as flat
use Rattle.fws_flat.specs.declared.code.Ins.{Ins}
use Rattle.fws_flat.specs.declared.code.Part.{Part}
use Rattle.fws_flat.specs.Soundness.{act_ok, code_ok}
use Rattle.fws_flat.specs.Walk.{step_of, stepped, code_walk, part_code}
use Rattle.fws_unfold.specs.declared.draft.Draft.{Draft}
use Rattle.fws_unfold.specs.declared.draft.DraftAct.{DraftAct}
use Rattle.fws_unfold.specs.declared.draft.DraftAct.TheVariants.{Do, Go}
use Rattle.fws_unfold.specs.declared.placing.Span.{Span}
use Rattle.fws_unfold.specs.Drafts.{Scene, acted_by, drafted, act_fits, all_fit, left_by, walk_of, Does}
use Rattle.fws_unfold.specs.Blocks.{placed_act, placed, part_of, IsLonger, IsBlock}

-- from beyond the drafts on nothing is passed over
at_head : (s : Scene) (ds : List Draft) (n : ℕ) (t : Transit) → length ds ≤ n → drafted s ds n t ≡ drafted s ds (length ds) t
at_head s [] n t le = refl
at_head s (d ∷ ds) n t le =
    let here : nat_le n (length ds) ≡ false = lt-leb n (length ds) (omega arith) in
    let there : nat_le (suc (length ds)) (length ds) ≡ false = lt-leb (suc (length ds)) (length ds) (omega arith) in
    rw (here, there) refl

cond_same : {X : Type 0} (b : Bool) (x y x' y' : X) → x ≡ x' → y ≡ y' → cond b x y ≡ cond b x' y'
cond_same true x y x' y' p q = p
cond_same false x y x' y' p q = q

abbrev scene : Site → Packet → Kind → Stage → Scene
scene site p k stage = record { site = site; packet = p; kind = k; stage = stage }

module _ (site : Site) (p : Packet) (k : Kind) (stage : Stage) (span : Span) (past : ℕ) where
  -- what an act does, where the instructions behind do what their drafts do
  act_same : (at : ℕ) (ds : List Draft) (act : DraftAct) (t : Transit) → at + 1 + length ds ≡ past → act_fits (length ds) act ≡ true
      → ((to : ℕ) (u : Transit) → to ≤ past → code_walk site p k (part_of span stage) (suc at) (map (placed past) ds) to u ≡ drafted (scene site p k stage) ds (past - to) u)
      → stepped (code_walk site p k (part_of span stage) (suc at) (map (placed past) ds)) (step_of p k (placed_act past act) t)
      ≡ acted_by (drafted (scene site p k stage) ds) (length ds) p k act t
  act_same at ds (Go n) t sum fits same =
      let low : n ≤ length ds = leb-true n (length ds) fits in
      let le : past - n ≤ past = omega arith in
      let there : past - (past - n) ≡ n = omega arith in
      same (past - n) t le ∙ ap (λ m. drafted (scene site p k stage) ds m t) there
  act_same at ds (Do flat.Accept) t sum fits same = refl
  act_same at ds (Do flat.Drop) t sum fits same = refl
  act_same at ds (Do (flat.Jump to)) t sum fits same = absurd (false≢true fits)
  act_same at ds (Do (flat.Hold b)) t sum fits same = same 0 _ (omega arith) ∙ at_head (scene site p k stage) ds (past - 0) _ (omega arith)
  act_same at ds (Do (flat.Src e)) t sum fits same = same 0 _ (omega arith) ∙ at_head (scene site p k stage) ds (past - 0) _ (omega arith)
  act_same at ds (Do (flat.Dst e)) t sum fits same = same 0 _ (omega arith) ∙ at_head (scene site p k stage) ds (past - 0) _ (omega arith)
  act_same at ds (Do flat.RecSrc) t sum fits same = same 0 _ (omega arith) ∙ at_head (scene site p k stage) ds (past - 0) _ (omega arith)
  act_same at ds (Do flat.RecDst) t sum fits same = same 0 _ (omega arith) ∙ at_head (scene site p k stage) ds (past - 0) _ (omega arith)
  act_same at ds (Do (flat.AddTag n)) t sum fits same = same 0 _ (omega arith) ∙ at_head (scene site p k stage) ds (past - 0) _ (omega arith)
  act_same at ds (Do (flat.OnlyTag n)) t sum fits same = same 0 _ (omega arith) ∙ at_head (scene site p k stage) ds (past - 0) _ (omega arith)
  act_same at ds (Do (flat.DelTag n)) t sum fits same = same 0 _ (omega arith) ∙ at_head (scene site p k stage) ds (past - 0) _ (omega arith)

  pub code_same : (at : ℕ) (ds : List Draft) → at + length ds ≡ past → all_fit ds ≡ true → (to : ℕ) (t : Transit) → to ≤ past
      → code_walk site p k (part_of span stage) at (map (placed past) ds) to t ≡ drafted (scene site p k stage) ds (past - to) t
  code_same at [] sum fits to t le = refl
  code_same at (d ∷ ds) sum fits to t le =
      let both = and_parts (act_fits (length ds) d.act) (all_fit ds) fits in
      let more : suc at + length ds ≡ past = omega arith in
      let more_too : at + 1 + length ds ≡ past = omega arith in
      let behind = code_same (suc at) ds more both.1 in
      ⊎_elim
      (λ passed.
      let here : nat_lt at to ≡ true = lt-ltb at to passed in
      let there : nat_le (past - to) (length ds) ≡ true = le-leb (past - to) (length ds) (omega arith) in
      rw (here, there) (behind to t le))
      (λ come.
      let here : nat_lt at to ≡ false = le-ltb at to come in
      let there : nat_le (past - to) (length ds) ≡ false = lt-leb (past - to) (length ds) (omega arith) in
      rw (here, there)
      (cond_same (holds d.cond (sees site k stage t)) _ _ _ _
      (act_same at ds d.act t more_too both.0 behind)
      (behind 0 t (omega arith) ∙ at_head (scene site p k stage) ds (past - 0) t (omega arith))))
      (cases_lt at to)

-- jumps of instructions go forward
act_right : (past at : ℕ) (ds : List Draft) (act : DraftAct) → at + 1 + length ds ≡ past → act_fits (length ds) act ≡ true → act_ok past at (placed_act past act) ≡ true
act_right past at ds (Go n) sum fits =
    let low : n ≤ length ds = leb-true n (length ds) fits in
    and_from (nat_lt at (past - n)) (nat_le (past - n) past) (lt-ltb at (past - n) (omega arith)) (le-leb (past - n) past (omega arith))
act_right past at ds (Do (flat.Jump to)) sum fits = absurd (false≢true fits)
act_right past at ds (Do flat.Accept) sum fits = refl
act_right past at ds (Do flat.Drop) sum fits = refl
act_right past at ds (Do (flat.Hold b)) sum fits = refl
act_right past at ds (Do (flat.Src e)) sum fits = refl
act_right past at ds (Do (flat.Dst e)) sum fits = refl
act_right past at ds (Do flat.RecSrc) sum fits = refl
act_right past at ds (Do flat.RecDst) sum fits = refl
act_right past at ds (Do (flat.AddTag n)) sum fits = refl
act_right past at ds (Do (flat.OnlyTag n)) sum fits = refl
act_right past at ds (Do (flat.DelTag n)) sum fits = refl

code_right : (past at : ℕ) (ds : List Draft) → at + length ds ≡ past → all_fit ds ≡ true → code_ok past at (map (placed past) ds) ≡ true
code_right past at [] sum fits = refl
code_right past at (d ∷ ds) sum fits =
    let both = and_parts (act_fits (length ds) d.act) (all_fit ds) fits in
    let more : suc at + length ds ≡ past = omega arith in
    let more_too : at + 1 + length ds ≡ past = omega arith in
    and_from (act_ok past at (placed_act past d.act)) (code_ok past (suc at) (map (placed past) ds)) (act_right past at ds d.act more_too both.0) (code_right past (suc at) ds more both.1)

-- The code of a span

all_taken : {X : Type 0} (xs : List X) → take (length xs) xs ≡ xs
all_taken [] = refl
all_taken (x ∷ xs) = ap (λ ys. x ∷ ys) (all_taken xs)

pub part_there : (code ms : List Ins) (part : Part) → part.first ≡ length code → part.past ≡ length code + length ms → part_code (code ++ ms) part ≡ ms
part_there code ms part first past =
    let size : part.past - part.first ≡ length ms = omega arith in
    ap (λ n. take n (drop part.first (code ++ ms))) size
    ∙ ap (λ n. take (length ms) (drop n (code ++ ms))) first
    ∙ ap (take (length ms)) (drop-append_seam code ms)
    ∙ all_taken ms

left_end : (end : ChainEnd) → left_by decided end ≡ stage_end end
left_end (Accepted t) = refl
left_end Dropped = refl
left_end (Through t) = refl

pub block_made : (chains : List Chain) (c : ℕ) (old code : List Ins) (ds : List Draft) (span : Span) → Does (λ s. walk_of chains s c) 0 [] ds
    → code ≡ old ++ map (placed span.past) ds → span.first ≡ length old → span.past ≡ length old + length ds → IsBlock chains code c span
block_made chains c old code ds span does made first past =
    let size : length (map (placed span.past) ds) ≡ length ds = length-map ds (placed span.past) in
    let fits : all_fit ds ≡ true = does.fits refl in
    let sum : span.first + length ds ≡ span.past = omega arith in
    let past_too : span.past ≡ length old + length (map (placed span.past) ds) = omega arith in
    let there : (stage : Stage) → part_code code (part_of span stage) ≡ map (placed span.past) ds =
    λ stage. ap (λ code. part_code code (part_of span stage)) made ∙ part_there old (map (placed span.past) ds) (part_of span stage) first past_too in
    let long : length code ≡ length old + length (map (placed span.past) ds) = ap length made ∙ length-append old (map (placed span.past) ds) in
    record {
      right = λ stage.
          and_from (nat_le span.first span.past && nat_le span.past (length code)) (code_ok span.past span.first (part_code code (part_of span stage)))
          (and_from (nat_le span.first span.past) (nat_le span.past (length code)) (le-leb span.first span.past (omega arith)) (le-leb span.past (length code) (omega arith)))
          (ap (code_ok span.past span.first) (there stage) ∙ code_right span.past span.first ds sum fits);
      walks = λ site p k stage t.
          ap (λ is. code_walk site p k (part_of span stage) span.first is 0 t) (there stage)
          ∙ code_same site p k stage span span.past span.first ds sum fits 0 t (omega arith)
          ∙ at_head (scene site p k stage) ds (span.past - 0) t (omega arith)
          ∙ does.walks (scene site p k stage) t
          ∙ left_end (chain_walk chains site p k stage (length chains) [] c t);
    }

-- Code with other code behind it

take_stays : {X : Type 0} (n : ℕ) (xs ys : List X) → n ≤ length xs → take n (xs ++ ys) ≡ take n xs
take_stays zero xs ys le = refl
take_stays (suc n) [] ys le = absurd (omega arith)
take_stays (suc n) (x ∷ xs) ys le = ap (λ zs. x ∷ zs) (take_stays n xs ys (omega arith))

pub part_stays : (first past : ℕ) (code more : List Ins) → past ≤ length code → take (past - first) (drop first (code ++ more)) ≡ take (past - first) (drop first code)
part_stays zero past code more le = let same : past - 0 ≡ past = omega arith in rw same (take_stays past code more le)
part_stays (suc first) past [] more le =
    let none : past - suc first ≡ 0 = let nothing : past ≤ 0 = le in omega arith in
    rw none refl
part_stays (suc first) zero (i ∷ code) more le = let none : 0 - suc first ≡ 0 = omega arith in rw none refl
part_stays (suc first) (suc past) (i ∷ code) more le =
    let same : suc past - suc first ≡ past - first = omega arith in
    rw same (part_stays first past code more (omega arith))

pub block_stays : (chains : List Chain) (c : ℕ) (code longer : List Ins) (span : Span) → IsLonger code longer → IsBlock chains code c span → IsBlock chains longer c span
block_stays chains c code longer span l block =
    let parts : (stage : Stage) → ((nat_le span.first span.past && nat_le span.past (length code)) ≡ true) × (code_ok span.past span.first (part_code code (part_of span stage)) ≡ true) =
    λ stage. and_parts (nat_le span.first span.past && nat_le span.past (length code)) (code_ok span.past span.first (part_code code (part_of span stage))) (block.right stage) in
    let bounds : (stage : Stage) → (nat_le span.first span.past ≡ true) × (nat_le span.past (length code) ≡ true) =
    λ stage. and_parts (nat_le span.first span.past) (nat_le span.past (length code)) (parts stage).0 in
    let within : (stage : Stage) → span.past ≤ length code = λ stage. leb-true span.past (length code) (bounds stage).1 in
    let same : (stage : Stage) → part_code longer (part_of span stage) ≡ part_code code (part_of span stage) =
    λ stage. ap (λ code. part_code code (part_of span stage)) l.is ∙ part_stays span.first span.past code l.more (within stage) in
    let long : length longer ≡ length code + length l.more = ap length l.is ∙ length-append code l.more in
    record {
      right = λ stage.
          and_from (nat_le span.first span.past && nat_le span.past (length longer)) (code_ok span.past span.first (part_code longer (part_of span stage)))
          (and_from (nat_le span.first span.past) (nat_le span.past (length longer)) (bounds stage).0 (le-leb span.past (length longer) (let le = within stage in omega arith)))
          (ap (code_ok span.past span.first) (same stage) ∙ (parts stage).1);
      walks = λ site p k stage t.
          ap (λ is. code_walk site p k (part_of span stage) span.first is 0 t) (same stage) ∙ block.walks site p k stage t;
    }

-- the bounds of a block
pub block_bounds : (chains : List Chain) (c : ℕ) (code : List Ins) (span : Span) → IsBlock chains code c span → Stage → (span.first ≤ span.past) × (span.past ≤ length code)
block_bounds chains c code span block stage =
    let outer = and_parts (nat_le span.first span.past && nat_le span.past (length code)) (code_ok span.past span.first (part_code code (part_of span stage))) (block.right stage) in
    let inner = and_parts (nat_le span.first span.past) (nat_le span.past (length code)) outer.0 in
    (leb-true span.first span.past inner.0, leb-true span.past (length code) inner.1)
