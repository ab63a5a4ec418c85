use Rattle.std.proofs.Common.{ℕ, Bool, List, sym, subst}
use Rattle.std.proofs.lemmas.Result.{IfOk-weaker}
use Rattle.fws_box.specs.Sides.{IsWithin}
use Rattle.fws_net.specs.Points.{tops_of}
use Rattle.fws_tree.specs.Plain.{Plain, value}
use Rattle.fws_place.specs.ByAck.{flags_pass, IsFalseWith}
use Rattle.fws_place.specs.Kept.{IsKeptWhere}
use Rattle.fws_place.proofs.ByAcks.{other_there}
use Rattle.fws_place.proofs.by_ack.false_with.Goals as goal

pub returns-clause-value : goal.returns-clause-value
returns-clause-value c =
    let tops : List ℕ = tops_of c.args.site.now in
    let asked : Bool = c.args.asked in
    let t = c.args.tree.now in
    let other = c.in_ok-other.other in
    let P : List ℕ × Plain Bool → Type 0 = λ u. IsKeptWhere tops (flags_pass asked) other.1 u.1 in
    let Q : List ℕ × Plain Bool → Type 0 = λ u. IsFalseWith asked tops t.1 u.1 in
    IfOk-weaker c.acknowledging_in.result P Q
    (λ u h q w. other_there (flags_pass asked q) (value t.1 q) (value other.1 q) (value u.1 q)
    (c.in_ok-other.ensures.value q (subst (λ (ts : List ℕ). IsWithin ts q) (sym c.requires) w)) (h q w))
    c.acknowledging_in.ensures.value
