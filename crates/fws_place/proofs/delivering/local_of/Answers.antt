use Rattle.std.proofs.Common.{◌≡◌, ℕ, ◌<◌, ◌^◌, Option, MatchOption, sym, subst, true}
use Rattle.fws_iv.specs.Ivs.{has}
use Rattle.fws_net.specs.declared.outcome.End.{End}
use Rattle.fws_net.specs.Fates.{written_addr}
use Rattle.fws_place.proofs.LocalWritten.{kept_end, kept_whole}
use Rattle.fws_place.proofs.delivering.local_of.Goals as goal

pub returns-in-None : goal.returns-in-None
returns-in-None c =
    let side = c.args.side.now in
    let local = c.args.local.now in
    let Found : Option End → Type 0
    = λ end. MatchOption c.kept_local_of.result ((d : ℕ) → d < 2 ^ 32 → has side d ≡ true → has local (written_addr end d) ≡ true → ⊥) (λ d. (has side d ≡ true) × (has local (written_addr end d) ≡ true) × (d < 2 ^ 32)) in
    subst Found (sym c.in-None.is) (kept_whole local side c.kept_local_of.result c.kept_local_of.ensures)

pub returns-in-Some : goal.returns-in-Some
returns-in-Some c =
    let side = c.args.side.now in
    let local = c.args.local.now in
    let o = c.kept_local_of-in-Some.result in
    let Found : Option End → Type 0
    = λ end. MatchOption o ((d : ℕ) → d < 2 ^ 32 → has side d ≡ true → has local (written_addr end d) ≡ true → ⊥) (λ d. (has side d ≡ true) × (has local (written_addr end d) ≡ true) × (d < 2 ^ 32)) in
    subst Found (sym c.in-Some.is) (kept_end local side c.in-Some.end c.size_of.result o c.size_of.ensures.size c.kept_local_of-in-Some.ensures)
