use Rattle.std.proofs.Common.{◌≡◌, ◌≤◌, ◌<◌, ◌+◌, ◌-◌, ◌∙◌, List, sym, ap, subst, arith, max, length, ℕ}
use Rattle.std.proofs.lemmas.List.{get_or_read}
use Rattle.fws_iv.specs.declared.iv.Iv.{Iv}
use Rattle.fws_iv.specs.Ivs.{IsRegular, last_start, past}
use Rattle.fws_iv.proofs.Parts.{regular-grow, last_start-grow, last_start_last, has-grow, regular-push, last_start-push, past_last, past_none}
use Rattle.fws_iv.proofs.joined.join_last.Goals as goal
use Rattle.fws_iv.proofs.joined.join_last.Goals.{else-n-gt0-via-then-n-gt0+else-lo-index, else-n-gt0-via-else-n-gt0}

nought : Iv
nought = record { lo = 0; hi = 0 }

pub returns-then-lo-index-clause-regular : goal.returns-then-lo-index-clause-regular
returns-then-lo-index-clause-regular g c =
    let s : List Iv = c.args.out.now.items in
    let k : ℕ = c.len-n.result - 1 in
    let last : k + 1 ≡ length s = omega (arith, c.args.out.now.ok.0) in
    let inside : k < length s = omega arith in
    let lo = ap (λ x. x.lo) (get_or_read s k _ inside c.index_mut.ensures.value nought) in
    let hi = ap (λ x. x.hi) (get_or_read s k _ inside c.index-then-lo-index.ensures nought) in
    regular-grow 0 s k nought _ last c.requires.regular lo (omega (arith, hi))

pub returns-then-lo-index-clause-begun : goal.returns-then-lo-index-clause-begun
returns-then-lo-index-clause-begun g c =
    let s : List Iv = c.args.out.now.items in
    let k : ℕ = c.len-n.result - 1 in
    let last : k + 1 ≡ length s = omega (arith, c.args.out.now.ok.0) in
    let inside : k < length s = omega arith in
    let lo = ap (λ x. x.lo) (get_or_read s k _ inside c.index_mut.ensures.value nought) in
    let grown = last_start-grow 0 s k (record { lo = c.index_mut.result.now.lo; hi = c.larger.result }) last in
    let was = last_start_last 0 s k nought last in
    omega arith

pub returns-then-lo-index-clause-members : goal.returns-then-lo-index-clause-members
returns-then-lo-index-clause-members g c =
    let s : List Iv = c.args.out.now.items in
    let k : ℕ = c.len-n.result - 1 in
    let last : k + 1 ≡ length s = omega (arith, c.args.out.now.ok.0) in
    let inside : k < length s = omega arith in
    let lo = ap (λ x. x.lo) (get_or_read s k _ inside c.index_mut.ensures.value nought) in
    let old = ap (λ x. x.hi) (get_or_read s k _ inside c.index-then-lo-index.ensures nought) in
    let tested = ap (λ x. x.hi) (get_or_read s k _ inside c.index.ensures nought) in
    let was = last_start_last 0 s k nought last in
    λ v. has-grow 0 s k nought _ _ v last c.requires.regular lo (c.larger.ensures ∙ ap (λ h. max h c.args.hi) old)
    c.requires.order (omega arith) (omega arith)

pub returns-in_ok-push-clause-regular : goal.returns-in_ok-push-clause-regular
returns-in_ok-push-clause-regular g c =
    let s : List Iv = c.args.out.now.items in
    let k : ℕ = c.len-n.result - 1 in
    let counted : c.len-n.result ≡ length s = omega (arith, c.args.out.now.ok.0) in
    let room : past 0 s ≤ c.args.lo = elim c.else-n-gt0.branch [
      | else-n-gt0-via-then-n-gt0+else-lo-index w ↦
          let last : k + 1 ≡ length s = omega arith in
          let tested = ap (λ x. x.hi) (get_or_read s k _ (omega arith) w.index.ensures nought) in
          let ends = past_last 0 s k nought last in
          omega arith
      | else-n-gt0-via-else-n-gt0 w ↦ let none = past_none 0 s (omega arith) in omega arith
    ] in
    let pushed = regular-push 0 s (record { lo = c.args.lo; hi = c.args.hi }) c.requires.regular room c.requires.order in
    subst (λ l. IsRegular l) (sym c.in_ok-push.ensures.items) pushed

pub returns-in_ok-push-clause-begun : goal.returns-in_ok-push-clause-begun
returns-in_ok-push-clause-begun g c =
    let s : List Iv = c.args.out.now.items in
    let pushed = last_start-push 0 s (record { lo = c.args.lo; hi = c.args.hi }) in
    let made = ap (λ l. last_start 0 l) c.in_ok-push.ensures.items in
    omega arith
