-- What is told of the rules of a chain that a walk uses, rule by rule.
use Rattle.std.proofs.Common.{◌≡◌, ℕ, suc, ◌+◌, ◌≤◌, Bool, true, false, cond, nat_lt, List, [], ◌∷◌, ◌++◌, length, arith, refl, sym, ap, ◌∙◌}
use Rattle.std.proofs.lemmas.Bool.{false≢true, le-ltb, lt-ltb, cond-true, cond-false}
use Rattle.fws_net.specs.declared.packet.Packet.{Packet}
use Rattle.fws_net.specs.declared.connection.Kind.{Kind}
use Rattle.fws_net.specs.declared.site.Site.{Site}
use Rattle.fws_net.specs.declared.transit.Transit.{Transit}
use Rattle.fws_net.specs.Conditions.{holds}
use Rattle.fws_ifcl.specs.declared.diagram.Act.{Act}
use Rattle.fws_ifcl.specs.declared.diagram.Act.TheVariants as acts
use Rattle.fws_ifcl.specs.declared.diagram.Place.{Place}
use Rattle.fws_ifcl.specs.declared.diagram.Rule.{Rule}
use Rattle.fws_ifcl.specs.declared.diagram.Spot.{Spot}
use Rattle.fws_ifcl.specs.declared.diagram.Stage.{Stage}
use Rattle.fws_ifcl.specs.declared.step.ChainEnd.{ChainEnd}
use Rattle.fws_ifcl.specs.Spots.{numbers_at, told}
use Rattle.fws_ifcl.specs.Uses.{used_behind, rules_used}
use Rattle.fws_ifcl.specs.Walk.{sees, step_of}
use Rattle.fws_ifcl_rules.specs.Rules.{ruled}
use Rattle.fws_ipt_ifcl.proofs.Asking.{IsGathered}
use Rattle.fws_ipt_ifcl.proofs.Guarding.{written, is_write}

pub told_by : (spots : List Spot) (b : Bool) (x y : List Place) → told spots (cond b x y) ≡ cond b (told spots x) (told spots y)
told_by spots true x y = refl
told_by spots false x y = refl

module _ (used : ℕ → Transit → List Place) (enter : ℕ → Transit → ChainEnd) (spots : List Spot) (c : ℕ) (site : Site) (p : Packet) (k : Kind) (stage : Stage) where
  -- the numbers at a place of the chain
  abbrev pub numbers : ℕ → List ℕ
  numbers at = numbers_at spots (record { chain = c; rule = at })

  -- what is told of the rules of which the first has the place at, from another one on
  abbrev pub tells : ℕ → List Rule → ℕ → Transit → List ℕ
  tells at rules to t = told spots (rules_used used enter c site p k stage at rules to t)

  from_here : (at : ℕ) (rules : List Rule) (to : ℕ) (t : Transit) → to ≤ at → tells at rules to t ≡ tells at rules 0 t
  from_here at [] to t le = refl
  from_here at (r ∷ rs) to t le =
      let here : nat_lt at to ≡ false = le-ltb at to le in
      let zeroth : nat_lt at 0 ≡ false = le-ltb at 0 (omega arith) in
      ap (told spots) (cond-false (nat_lt at to) _ _ here ∙ sym (cond-false (nat_lt at 0) _ _ zeroth))

  passed_over : (at : ℕ) (rules rest : List Rule) (to : ℕ) (t : Transit) → at + length rules ≤ to
      → tells at (rules ++ rest) to t ≡ tells (at + length rules) rest to t
  passed_over at [] rest to t le =
      let same : at ≡ at + 0 = omega arith in
      ap (λ n. tells n rest to t) same
  passed_over at (r ∷ rs) rest to t le =
      let here : nat_lt at to ≡ true = lt-ltb at to (omega arith) in
      let next : suc at + length rs ≡ at + suc (length rs) = omega arith in
      ap (told spots) (cond-true (nat_lt at to) _ _ here) ∙ passed_over (suc at) rs rest to t (omega arith) ∙ ap (λ n. tells n rest to t) next

  -- the first rule: its numbers, and what is told behind it
  pub first_told : (at : ℕ) (r : Rule) (rest : List Rule) (t : Transit)
      → tells at (r ∷ rest) 0 t
      ≡ cond (holds r.cond (sees site k stage t)) (numbers at ++ told spots (used_behind used enter (rules_used used enter c site p k stage (suc at) rest) (step_of p k r.act t))) (tells (suc at) rest 0 t)
  first_told at r rest t =
      let zeroth : nat_lt at 0 ≡ false = le-ltb at 0 (omega arith) in
      let here : Place = record { chain = c; rule = at } in
      ap (told spots) (cond-false (nat_lt at 0) _ _ zeroth)
      ∙ told_by spots (holds r.cond (sees site k stage t)) (here ∷ used_behind used enter (rules_used used enter c site p k stage (suc at) rest) (step_of p k r.act t))
      (rules_used used enter c site p k stage (suc at) rest 0 t)

  write_told : (act : Act) (go : ℕ → Transit → List Place) (t : Transit) → is_write act ≡ true → used_behind used enter go (step_of p k act t) ≡ go 0 (written p act t)
  write_told (acts.Src e) go t is = refl
  write_told (acts.Dst e) go t is = refl
  write_told _ go t is = absurd (false≢true is)

  pub told_gathered : IsGathered site p k stage tells (λ at l. numbers at ++ l) (λ t. [])
  told_gathered = record {
    here = from_here;
    over = passed_over;
    skips = λ at to test rest t. first_told at (ruled test (acts.Skip to)) rest t;
    writes = λ at act test rest t is.
        first_told at (ruled test act) rest t
        ∙ ap (λ l. cond (holds test (sees site k stage t)) (numbers at ++ told spots l) (tells (suc at) rest 0 t)) (write_told act (rules_used used enter c site p k stage (suc at) rest) t is);
    accepts = λ at test rest t. first_told at (ruled test acts.Accept) rest t;
  }
