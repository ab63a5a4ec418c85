-- Steps of a walk.
use Rattle.std.proofs.Common.{◌≡◌, ℕ, zero, suc, ◌-◌, ◌<◌, ◌≤◌, true, false, Result, IfOk, OnOk, Option, None, Some, option_and_then, List, [], ◌∷◌, nat_eq, nat_lt, ◌++◌, append_assoc, append-nil, arith, refl, sym, ◌∙◌, ap, subst, ◌+◌, length, get_or, drop, add-one, drop-cons}
use Rattle.std.proofs.lemmas.Bool.{le-ltb, lt-ltb}
use Rattle.std.specs.List.{list_any}
use Rattle.std.specs.Option.{option_map_or}
use Rattle.fws_num.specs.declared.memory.Memory.{Memory}
use Rattle.fws_net.specs.declared.packet.Packet.{Packet}
use Rattle.fws_net.specs.declared.connection.Kind.{Kind}
use Rattle.fws_net.specs.declared.site.Site.{Site}
use Rattle.fws_net.specs.declared.transit.Transit.{Transit}
use Rattle.fws_ifcl.specs.declared.diagram.Chain.{Chain}
use Rattle.fws_ifcl.specs.declared.diagram.Place.{Place}
use Rattle.fws_ifcl.specs.declared.diagram.Rule.{Rule}
use Rattle.fws_ifcl.specs.declared.diagram.Stage.{Stage}
use Rattle.fws_ifcl.specs.declared.step.ChainEnd.{ChainEnd}
use Rattle.fws_ifcl.specs.declared.step.Step.{Step}
use Rattle.fws_ifcl.specs.declared.step.Turn.{Turn}
use Rattle.fws_ifcl.specs.declared.step.Turn.TheVariants.{Leave, Onwards}
use Rattle.fws_ifcl.specs.Turns.{turned, used_turned}
use Rattle.fws_ifcl.specs.Walk.{stepped, chain_walk, rules_walk, rules_at, stage_walk, stages_walk}
use Rattle.fws_ifcl.specs.Uses.{used_behind, chain_used, rules_used, stage_used, stages_used}

-- a chain that is not on the path, while one more may be entered
chain_entered : (chains : List Chain) (site : Site) (p : Packet) (k : Kind) (stage : Stage) (left : ℕ) (path : List ℕ) (c : ℕ) (t : Transit)
    → 0 < left → list_any (nat_eq c) path ≡ false
    → chain_walk chains site p k stage left path c t
    ≡ rules_walk (chain_walk chains site p k stage (left - 1) (c ∷ path)) site p k stage 0 (rules_at chains c) 0 t
chain_entered chains site p k stage zero path c t lt off = absurd (omega arith)
chain_entered chains site p k stage (suc n) path c t lt off =
    let same : suc n - 1 ≡ n = omega arith in
    rw (off, same)

-- what is used in it
chain_used_entered : (chains : List Chain) (site : Site) (p : Packet) (k : Kind) (stage : Stage) (left : ℕ) (path : List ℕ) (c : ℕ) (t : Transit)
    → 0 < left → list_any (nat_eq c) path ≡ false
    → chain_used chains site p k stage left path c t
    ≡ rules_used (chain_used chains site p k stage (left - 1) (c ∷ path)) (chain_walk chains site p k stage (left - 1) (c ∷ path)) c site p k stage 0 (rules_at chains c) 0 t
chain_used_entered chains site p k stage zero path c t lt off = absurd (omega arith)
chain_used_entered chains site p k stage (suc n) path c t lt off =
    let same : suc n - 1 ≡ n = omega arith in
    rw (off, same)

-- the same of what was returned for the path on which it is entered

pub chain_led : (chains : List Chain) (site : Site) (p : Packet) (k : Kind) (stage : Stage) (left : ℕ) (path under : List ℕ) (c : ℕ) (t : Transit) (r : Result ChainEnd Memory)
    → 0 < left → list_any (nat_eq c) path ≡ false → under ≡ c ∷ path
    → IfOk r (λ end. end ≡ rules_walk (chain_walk chains site p k stage (left - 1) under) site p k stage 0 (rules_at chains c) 0 t)
    → IfOk r (λ end. end ≡ chain_walk chains site p k stage left path c t)
chain_led chains site p k stage left path under c t r lt off is given =
    subst (λ whole. IfOk r (λ end. end ≡ whole))
    (ap (λ us. rules_walk (chain_walk chains site p k stage (left - 1) us) site p k stage 0 (rules_at chains c) 0 t) is ∙ sym (chain_entered chains site p k stage left path c t lt off)) given

pub chain_logged : (chains : List Chain) (site : Site) (p : Packet) (k : Kind) (stage : Stage) (left : ℕ) (path under : List ℕ) (c : ℕ) (t : Transit) (r : Result ChainEnd Memory)
    (before after : List Place) → 0 < left → list_any (nat_eq c) path ≡ false → under ≡ c ∷ path
    → OnOk r (after ≡ before ++ rules_used (chain_used chains site p k stage (left - 1) under) (chain_walk chains site p k stage (left - 1) under) c site p k stage 0 (rules_at chains c) 0 t)
    → OnOk r (after ≡ before ++ chain_used chains site p k stage left path c t)
chain_logged chains site p k stage left path under c t r before after lt off is given =
    subst (λ whole. OnOk r (after ≡ before ++ whole))
    (ap (λ us. rules_used (chain_used chains site p k stage (left - 1) us) (chain_walk chains site p k stage (left - 1) us) c site p k stage 0 (rules_at chains c) 0 t) is
    ∙ sym (chain_used_entered chains site p k stage left path c t lt off)) given

-- a place at the first rule or before it passes over none
not_passed : (enter : ℕ → Transit → ChainEnd) (site : Site) (p : Packet) (k : Kind) (stage : Stage) (at : ℕ) (r : Rule) (rs : List Rule) (to : ℕ) (t : Transit)
    → to ≤ at → rules_walk enter site p k stage at (r ∷ rs) to t ≡ rules_walk enter site p k stage at (r ∷ rs) 0 t
not_passed enter site p k stage at r rs to t le =
    let here : nat_lt at to ≡ false = le-ltb at to le in
    let zeroth : nat_lt at 0 ≡ false = le-ltb at 0 (omega arith) in
    rw (here, zeroth) refl

not_passed_used : (used : ℕ → Transit → List Place) (enter : ℕ → Transit → ChainEnd) (c : ℕ) (site : Site) (p : Packet) (k : Kind) (stage : Stage) (at : ℕ) (r : Rule) (rs : List Rule) (to : ℕ) (t : Transit)
    → to ≤ at → rules_used used enter c site p k stage at (r ∷ rs) to t ≡ rules_used used enter c site p k stage at (r ∷ rs) 0 t
not_passed_used used enter c site p k stage at r rs to t le =
    let here : nat_lt at to ≡ false = le-ltb at to le in
    let zeroth : nat_lt at 0 ≡ false = le-ltb at 0 (omega arith) in
    rw (here, zeroth) refl

-- a rule that is passed over

pub passed_over : (enter : ℕ → Transit → ChainEnd) (site : Site) (p : Packet) (k : Kind) (stage : Stage) (at next : ℕ) (r : Rule) (rest rules : List Rule) (to : ℕ) (t : Transit) (whole : ChainEnd)
    → at < to → next ≡ suc at → rules ≡ r ∷ rest → rules_walk enter site p k stage at rules to t ≡ whole → rules_walk enter site p k stage next rest to t ≡ whole
passed_over enter site p k stage at next r rest rules to t whole lt is_next is e =
    let here : nat_lt at to ≡ true = lt-ltb at to lt in
    let over : rules_walk enter site p k stage at (r ∷ rest) to t ≡ rules_walk enter site p k stage (suc at) rest to t = rw here refl in
    ap (λ n. rules_walk enter site p k stage n rest to t) is_next ∙ sym over ∙ sym (ap (λ rs. rules_walk enter site p k stage at rs to t) is) ∙ e

pub log_passed_over : (used : ℕ → Transit → List Place) (enter : ℕ → Transit → ChainEnd) (c : ℕ) (site : Site) (p : Packet) (k : Kind) (stage : Stage) (at next : ℕ) (r : Rule) (rest rules : List Rule)
    (to : ℕ) (t : Transit) (log whole : List Place)
    → at < to → next ≡ suc at → rules ≡ r ∷ rest → log ++ rules_used used enter c site p k stage at rules to t ≡ whole → log ++ rules_used used enter c site p k stage next rest to t ≡ whole
log_passed_over used enter c site p k stage at next r rest rules to t log whole lt is_next is e =
    let here : nat_lt at to ≡ true = lt-ltb at to lt in
    let over : rules_used used enter c site p k stage at (r ∷ rest) to t ≡ rules_used used enter c site p k stage (suc at) rest to t = rw here refl in
    ap (λ xs. log ++ xs) (ap (λ n. rules_used used enter c site p k stage n rest to t) is_next ∙ sym over ∙ sym (ap (λ rs. rules_used used enter c site p k stage at rs to t) is)) ∙ e

-- The walk from the first rule that isn't passed over on, in terms of its step

pub walk_leads : (enter : ℕ → Transit → ChainEnd) (site : Site) (p : Packet) (k : Kind) (stage : Stage) (at next n : ℕ) (r : Rule) (rest rules : List Rule) (to : ℕ) (t : Transit) (step : Step) (whole : ChainEnd)
    → to ≤ at → next ≡ suc at → n ≡ at → rules ≡ r ∷ rest → rules_walk enter site p k stage at rules to t ≡ whole
    → stepped enter (rules_walk enter site p k stage (suc n) rest) step ≡ rules_walk enter site p k stage n (r ∷ rest) 0 t
    → stepped enter (rules_walk enter site p k stage next rest) step ≡ whole
walk_leads enter site p k stage at next n r rest rules to t step whole le is_next same is e made =
    ap (λ m. stepped enter (rules_walk enter site p k stage m rest) step) is_next
    ∙ subst (λ m. stepped enter (rules_walk enter site p k stage (suc m) rest) step ≡ rules_walk enter site p k stage m (r ∷ rest) 0 t) same made
    ∙ sym (not_passed enter site p k stage at r rest to t le) ∙ sym (ap (λ rs. rules_walk enter site p k stage at rs to t) is) ∙ e

pub log_leads : (used : ℕ → Transit → List Place) (enter : ℕ → Transit → ChainEnd) (c : ℕ) (site : Site) (p : Packet) (k : Kind) (stage : Stage) (at next : ℕ) (place : Place) (r : Rule) (rest rules : List Rule)
    (to : ℕ) (t : Transit) (step : Step) (before after whole : List Place)
    → to ≤ at → next ≡ suc at → place ≡ record { chain = c; rule = at } → rules ≡ r ∷ rest → before ++ rules_used used enter c site p k stage at rules to t ≡ whole
    → after ++ used_behind used enter (rules_used used enter place.chain site p k stage (suc place.rule) rest) step
    ≡ before ++ rules_used used enter place.chain site p k stage place.rule (r ∷ rest) 0 t
    → after ++ used_behind used enter (rules_used used enter c site p k stage next rest) step ≡ whole
log_leads used enter c site p k stage at next place r rest rules to t step before after whole le is_next same is e made =
    ap (λ n. after ++ used_behind used enter (rules_used used enter c site p k stage n rest) step) is_next
    ∙ subst (λ (pl : Place). after ++ used_behind used enter (rules_used used enter pl.chain site p k stage (suc pl.rule) rest) step ≡ before ++ rules_used used enter pl.chain site p k stage pl.rule (r ∷ rest) 0 t) same made
    ∙ ap (λ xs. before ++ xs) (sym (not_passed_used used enter c site p k stage at r rest to t le) ∙ sym (ap (λ rs. rules_used used enter c site p k stage at rs to t) is)) ∙ e

-- The walk behind a rule, once it is back from a chain that the rule enters

pub turned_on : (go : ℕ → Transit → ChainEnd) (turn : Turn) (place : ℕ) (u : Transit) (whole : ChainEnd) → turn ≡ Onwards place u → turned go turn ≡ whole → go place u ≡ whole
turned_on go turn place u whole is e = sym (ap (turned go) is) ∙ e

pub turned_away : (go : ℕ → Transit → ChainEnd) (turn : Turn) (end whole : ChainEnd) → turn ≡ Leave end → turned go turn ≡ whole → end ≡ whole
turned_away go turn end whole is e = sym (ap (turned go) is) ∙ e

pub log_turned_on : (go : ℕ → Transit → List Place) (turn : Turn) (place : ℕ) (u : Transit) (log whole : List Place) → turn ≡ Onwards place u → log ++ used_turned go turn ≡ whole
    → log ++ go place u ≡ whole
log_turned_on go turn place u log whole is e = sym (ap (λ x. log ++ used_turned go x) is) ∙ e

pub log_turned_away : (go : ℕ → Transit → List Place) (turn : Turn) (end : ChainEnd) (log whole : List Place) → turn ≡ Leave end → log ++ used_turned go turn ≡ whole → log ≡ whole
log_turned_away go turn end log whole is e = sym (append-nil log) ∙ sym (ap (λ x. log ++ used_turned go x) is) ∙ e

-- the element at a place, and what is behind it
pub dropped : {X : Type 0} (xs : List X) (i : ℕ) (x : X) → i < length xs → x ≡ get_or xs i x → drop i xs ≡ x ∷ drop (i + 1) xs
dropped xs i x lt is = rw (add-one, drop-cons xs i x) (ap (λ y. y ∷ drop (suc i) xs) (sym is))

-- The walk behind a stage

stages_led : (chains : List Chain) (site : Site) (p : Packet) (k : Kind) (stage : Stage) (rest stages : List Stage) (t : Transit) (o : Option Transit) (whole : Option Transit)
    → stages ≡ stage ∷ rest → o ≡ stage_walk chains site p k stage t → stages_walk chains site p k stages t ≡ whole → option_and_then (stages_walk chains site p k rest) o ≡ whole
stages_led chains site p k stage rest stages t o whole is walked e =
    ap (option_and_then (stages_walk chains site p k rest)) walked ∙ sym (ap (λ ss. stages_walk chains site p k ss t) is) ∙ e

stages_logged : (chains : List Chain) (site : Site) (p : Packet) (k : Kind) (stage : Stage) (rest stages : List Stage) (t : Transit) (o : Option Transit) (before after whole : List Place)
    → stages ≡ stage ∷ rest → o ≡ stage_walk chains site p k stage t → after ≡ before ++ stage_used chains site p k stage t → before ++ stages_used chains site p k stages t ≡ whole
    → after ++ option_map_or (stages_used chains site p k rest) o [] ≡ whole
stages_logged chains site p k stage rest stages t o before after whole is walked logged e =
    ap (λ xs. xs ++ option_map_or (stages_used chains site p k rest) o []) logged
    ∙ append_assoc before (stage_used chains site p k stage t) (option_map_or (stages_used chains site p k rest) o [])
    ∙ ap (λ x. before ++ (stage_used chains site p k stage t ++ option_map_or (stages_used chains site p k rest) x [])) walked
    ∙ sym (ap (λ ss. before ++ stages_used chains site p k ss t) is)
    ∙ e

pub stages_on : (chains : List Chain) (site : Site) (p : Packet) (k : Kind) (stage : Stage) (rest stages : List Stage) (t u : Transit) (o : Option Transit) (whole : Option Transit)
    → stages ≡ stage ∷ rest → o ≡ stage_walk chains site p k stage t → o ≡ Some u → stages_walk chains site p k stages t ≡ whole → stages_walk chains site p k rest u ≡ whole
stages_on chains site p k stage rest stages t u o whole is walked goes e =
    sym (ap (option_and_then (stages_walk chains site p k rest)) goes) ∙ stages_led chains site p k stage rest stages t o whole is walked e

pub stages_dropped : (chains : List Chain) (site : Site) (p : Packet) (k : Kind) (stage : Stage) (rest stages : List Stage) (t : Transit) (o : Option Transit) (whole : Option Transit)
    → stages ≡ stage ∷ rest → o ≡ stage_walk chains site p k stage t → o ≡ None → stages_walk chains site p k stages t ≡ whole → None ≡ whole
stages_dropped chains site p k stage rest stages t o whole is walked ends e =
    sym (ap (option_and_then (stages_walk chains site p k rest)) ends) ∙ stages_led chains site p k stage rest stages t o whole is walked e

pub log_stages_on : (chains : List Chain) (site : Site) (p : Packet) (k : Kind) (stage : Stage) (rest stages : List Stage) (t u : Transit) (o : Option Transit) (before after whole : List Place)
    → stages ≡ stage ∷ rest → o ≡ stage_walk chains site p k stage t → after ≡ before ++ stage_used chains site p k stage t → o ≡ Some u
    → before ++ stages_used chains site p k stages t ≡ whole → after ++ stages_used chains site p k rest u ≡ whole
log_stages_on chains site p k stage rest stages t u o before after whole is walked logged goes e =
    sym (ap (λ x. after ++ option_map_or (stages_used chains site p k rest) x []) goes) ∙ stages_logged chains site p k stage rest stages t o before after whole is walked logged e

pub log_stages_dropped : (chains : List Chain) (site : Site) (p : Packet) (k : Kind) (stage : Stage) (rest stages : List Stage) (t : Transit) (o : Option Transit) (before after whole : List Place)
    → stages ≡ stage ∷ rest → o ≡ stage_walk chains site p k stage t → after ≡ before ++ stage_used chains site p k stage t → o ≡ None
    → before ++ stages_used chains site p k stages t ≡ whole → after ≡ whole
log_stages_dropped chains site p k stage rest stages t o before after whole is walked logged ends e =
    sym (append-nil after) ∙ sym (ap (λ x. after ++ option_map_or (stages_used chains site p k rest) x []) ends)
    ∙ stages_logged chains site p k stage rest stages t o before after whole is walked logged e
