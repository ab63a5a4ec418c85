-- How the walk goes through rules that write ends where a condition holds.
use Rattle.std.proofs.Common.{◌≡◌, ℕ, suc, ◌+◌, ◌≤◌, Bool, true, false, cond, nat_lt, List, [], ◌∷◌, ◌++◌, length, arith, refl, sym, ap, ◌∙◌, append_assoc, length-append}
use Rattle.std.proofs.lemmas.Bool.{false≢true, le-ltb, lt-ltb, and_parts, cond-true, cond-false}
use Rattle.std.specs.List.{list_all}
use Rattle.fws_net.specs.declared.condition.Lit.{Lit}
use Rattle.fws_net.specs.declared.packet.Packet.{Packet}
use Rattle.fws_net.specs.declared.connection.Kind.{Kind}
use Rattle.fws_net.specs.declared.site.Site.{Site}
use Rattle.fws_net.specs.declared.transit.Transit.{Transit}
use Rattle.fws_net.specs.Conditions.{holds}
use Rattle.fws_net.specs.Transits.{with_src, with_dst}
use Rattle.fws_ifcl.specs.declared.diagram.Act.{Act}
use Rattle.fws_ifcl.specs.declared.diagram.Act.TheVariants.{Accept, Skip, Src, Dst}
use Rattle.fws_ifcl.specs.declared.diagram.Rule.{Rule}
use Rattle.fws_ifcl.specs.declared.diagram.Stage.{Stage}
use Rattle.fws_ifcl.specs.declared.step.ChainEnd.{ChainEnd}
use Rattle.fws_ifcl.specs.declared.step.ChainEnd.TheVariants.{Accepted}
use Rattle.fws_ifcl.specs.Walk.{sees, step_of, stepped, rules_walk}
use Rattle.fws_ifcl_rules.specs.Rules.{ruled, always}
use Rattle.fws_ipt_ifcl.specs.Blocks.{guarded_writes}

-- what an act that writes an end does
abbrev pub written : Packet → Act → Transit → Transit
written p (Src e) t = with_src p e t
written p (Dst e) t = with_dst p e t
written p _ t = t

abbrev pub is_write : Act → Bool
is_write (Src e) = true
is_write (Dst e) = true
is_write _ = false

abbrev pub are_writes : List Rule → Bool
are_writes rules = list_all (λ (r : Rule). is_write r.act) rules

-- what rules that write ends make of a transit, one after another
abbrev pub written_by : Site → Packet → Kind → Stage → List Rule → Transit → Transit
written_by site p k stage [] t = t
written_by site p k stage (r ∷ rs) t =
    written_by site p k stage rs (cond (holds r.cond (sees site k stage t)) (written p r.act t) t)

module _ (enter : ℕ → Transit → ChainEnd) (site : Site) (p : Packet) (k : Kind) (stage : Stage) where
  abbrev from : ℕ → List Rule → ℕ → Transit → ChainEnd
  from at rules to t = rules_walk enter site p k stage at rules to t

  -- a place at the first rule or before it passes over none
  pub from_here : (at : ℕ) (rules : List Rule) (to : ℕ) (t : Transit) → to ≤ at → from at rules to t ≡ from at rules 0 t
  from_here at [] to t le = refl
  from_here at (r ∷ rs) to t le =
      let here : nat_lt at to ≡ false = le-ltb at to le in
      let zeroth : nat_lt at 0 ≡ false = le-ltb at 0 (omega arith) in
      cond-false (nat_lt at to) _ _ here ∙ sym (cond-false (nat_lt at 0) _ _ zeroth)

  -- rules ahead of a place are passed over
  pub passed_over : (at : ℕ) (rules rest : List Rule) (to : ℕ) (t : Transit) → at + length rules ≤ to
      → from at (rules ++ rest) to t ≡ from (at + length rules) rest to t
  passed_over at [] rest to t le =
      let same : at ≡ at + 0 = omega arith in
      ap (λ n. from n rest to t) same
  passed_over at (r ∷ rs) rest to t le =
      let here : nat_lt at to ≡ true = lt-ltb at to (omega arith) in
      let next : suc at + length rs ≡ at + suc (length rs) = omega arith in
      cond-true (nat_lt at to) _ _ here ∙ passed_over (suc at) rs rest to t (omega arith) ∙ ap (λ n. from n rest to t) next

  -- the first rule
  pub first_rule : (at : ℕ) (r : Rule) (rest : List Rule) (t : Transit)
      → from at (r ∷ rest) 0 t
      ≡ cond (holds r.cond (sees site k stage t)) (stepped enter (from (suc at) rest) (step_of p k r.act t)) (from (suc at) rest 0 t)
  first_rule at r rest t =
      let zeroth : nat_lt at 0 ≡ false = le-ltb at 0 (omega arith) in
      cond-false (nat_lt at 0) _ _ zeroth

  pub write_step : (act : Act) (go : ℕ → Transit → ChainEnd) (t : Transit) → is_write act ≡ true → stepped enter go (step_of p k act t) ≡ go 0 (written p act t)
  write_step (Src e) go t is = refl
  write_step (Dst e) go t is = refl
  write_step _ go t is = absurd (false≢true is)

  write_or_not : (h : Bool) (go : ℕ → Transit → ChainEnd) (act : Act) (t : Transit) → is_write act ≡ true
      → cond h (stepped enter go (step_of p k act t)) (go 0 t) ≡ go 0 (cond h (written p act t) t)
  write_or_not true go act t is = write_step act go t is
  write_or_not false go act t is = refl

  -- rules that write
  pub writes_walk : (at : ℕ) (writes rest : List Rule) (t : Transit) → are_writes writes ≡ true
      → from at (writes ++ rest) 0 t ≡ from (at + length writes) rest 0 (written_by site p k stage writes t)
  writes_walk at [] rest t are =
      let same : at ≡ at + 0 = omega arith in
      ap (λ n. from n rest 0 t) same
  writes_walk at (r ∷ rs) rest t are =
      let both = and_parts (is_write r.act) (are_writes rs) are in
      let next : suc at + length rs ≡ at + suc (length rs) = omega arith in
      let now = cond (holds r.cond (sees site k stage t)) (written p r.act t) t in
      first_rule at r (rs ++ rest) t
      ∙ write_or_not (holds r.cond (sees site k stage t)) (from (suc at) (rs ++ rest)) r.act t both.0
      ∙ writes_walk (suc at) rs rest now both.1
      ∙ ap (λ n. from n rest 0 (written_by site p k stage rs now)) next

  branched : (h : Bool) (a b c d : ChainEnd) → a ≡ c → b ≡ d → cond h a b ≡ cond h c d
  branched true a b c d e f = e
  branched false a b c d e f = f

  -- where the condition holds the rules write and accept, else the walk goes on behind them
  pub guarded_walk : (at : ℕ) (test : List Lit) (writes rest : List Rule) (t : Transit) → are_writes writes ≡ true
      → from at (guarded_writes at test writes ++ rest) 0 t
      ≡ cond (holds test (sees site k stage t)) (Accepted (written_by site p k stage writes t)) (from (at + (3 + length writes)) rest 0 t)
  guarded_walk at test writes rest t are =
      let inner = writes ++ always Accept ∷ [] in
      let past = always (Skip (at + (2 + length inner))) in
      let body = inner ++ rest in
      let one : nat_lt (suc at) (at + 2) ≡ true = lt-ltb (suc at) (at + 2) (omega arith) in
      let yes : from (suc at) (past ∷ body) (at + 2) t ≡ Accepted (written_by site p k stage writes t) =
      cond-true (nat_lt (suc at) (at + 2)) _ _ one
      ∙ from_here (suc (suc at)) body (at + 2) t (omega arith)
      ∙ ap (λ rules. from (suc (suc at)) rules 0 t) (append_assoc writes (always Accept ∷ []) rest)
      ∙ writes_walk (suc (suc at)) writes (always Accept ∷ rest) t are
      ∙ first_rule (suc (suc at) + length writes) (always Accept) rest (written_by site p k stage writes t) in
      let all : length inner ≡ length writes + 1 = length-append writes (always Accept ∷ []) in
      let far : suc (suc at) + length inner ≡ at + (3 + length writes) = omega (arith, all) in
      let no : from (suc at) (past ∷ body) 0 t ≡ from (at + (3 + length writes)) rest 0 t =
      first_rule (suc at) past body t
      ∙ passed_over (suc (suc at)) inner rest (at + (2 + length inner)) t (omega arith)
      ∙ from_here (suc (suc at) + length inner) rest (at + (2 + length inner)) t (omega arith)
      ∙ ap (λ n. from n rest 0 t) far in
      first_rule at (ruled test (Skip (at + 2))) (past ∷ body) t
      ∙ branched (holds test (sees site k stage t)) _ _ _ _ yes no
