use Rattle.std.proofs.Common.{ℕ, Bool, ◌&&◌, not, Option, Some, List, sym, subst}
use Rattle.std.proofs.lemmas.Result.{IfOk-weaker}
use Rattle.fws_box.specs.Sides.{IsWithin}
use Rattle.fws_net.specs.Points.{tops_of}
use Rattle.fws_tree.specs.Plain.{Plain, value}
use Rattle.fws_place.specs.ByAck.{is_first_test, IsFirstOf}
use Rattle.fws_place.specs.Kept.{IsKeptWhere}
use Rattle.fws_place.proofs.ByAcks.{kept_there}
use Rattle.fws_place.proofs.ack_ahead.first_of.Goals as goal

pub returns-clause-value : goal.returns-clause-value
returns-clause-value c =
    let site = c.args.site.now in
    let sometimes = c.args.sometimes.now in
    let new = c.args.new.now in
    let both = c.in_ok-both.both in
    let P : List ℕ × Plain Bool → Type 0 = λ t. IsKeptWhere (tops_of site) (is_first_test site) both.1 t.1 in
    let Q : List ℕ × Plain Bool → Type 0 = λ t. IsFirstOf site sometimes.1 new.1 t.1 in
    IfOk-weaker c.arriving_found.result P Q
    (λ t h q w.
    let f : Bool → Bool → Option Bool = λ a b. Some (a && not b) in
    kept_there (is_first_test site q) (value sometimes.1 q) (value new.1 q) (value both.1 q) (value t.1 q) f
    (c.in_ok-both.ensures.value q (subst (λ (ts : List ℕ). IsWithin ts q) (sym c.requires.tops) w)) (h q w))
    c.arriving_found.ensures.value
