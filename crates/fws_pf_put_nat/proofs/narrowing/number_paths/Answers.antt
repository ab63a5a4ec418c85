use Rattle.std.proofs.Common.{◌≡◌, ℕ, ◌+◌, ◌∷◌, [], ◌++◌, List, sym, ◌∙◌, ap, subst, arith}
use Rattle.fws_pf_put_nat.specs.declared.path.Path.{Path}
use Rattle.fws_pf_put_nat.specs.Narrowing.{AreNumberPaths}
use Rattle.fws_pf_put_nat.specs.Paths.{with_part}
use Rattle.fws_pf_put_nat.proofs.Narrowed.{no_numbers, number_less, number_more}
use Rattle.fws_pf_put_nat.proofs.narrowing.number_paths.Goals.{then-has+in_ok-put, else-has}
use Rattle.fws_pf_put_nat.proofs.narrowing.number_paths.Goals as goal

pub loop-v-init : goal.loop-v-init
loop-v-init c =
    subst (λ (l : List Path). AreNumberPaths c.args.side c.args.set.now c.args.path c.args.from c.args.from l) (sym c.new-paths.ensures) (no_numbers c.args.side c.args.set.now c.args.path c.args.from)

pub loop-v-preserved : goal.loop-v-preserved
loop-v-preserved c =
    let set = c.args.set.now in
    let side = c.args.side in
    let path = c.args.path in
    let v : ℕ = c.loop-v.v in
    let paths = c.loop-v.paths in
    let number = c.requires.number in
    elim c.if-has.branch [
      | then-has+in_ok-put w ↦ number_more number.0 number.1 side set path c.args.from c.args.top v paths c.if-has.paths number.2 (omega arith) c.requires.free (sym c.has.ensures ∙ w.if-has.true)
          (w.paths-is ∙ w.in_ok-put.ensures.ok ∙ ap (λ (x : Path). paths ++ x ∷ []) (w.narrowed.ensures ∙ ap (λ p. with_part side p path) w.only.ensures)) c.loop-v.invariant
      | else-has w ↦ subst (λ (l : List Path). AreNumberPaths side set path c.args.from (v + 1) l) (sym w.paths-is) (number_less side set path c.args.from v paths (sym c.has.ensures ∙ w.if-has.false) c.loop-v.invariant)
    ]

pub returns : goal.returns
returns c =
    let end : c.loop-v.v ≡ c.args.top + 1 = omega arith in
    subst (λ n. AreNumberPaths c.args.side c.args.set.now c.args.path c.args.from n c.loop-v.paths) end c.loop-v.invariant
