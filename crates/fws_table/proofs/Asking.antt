-- What a tree has that is relabelled and restricted to what is asked for, and its text.
use Rattle.std.proofs.Common.{◌≡◌, ℕ, Bool, true, false, cond, Option, Some, None, List, sym, subst, ◌∙◌, ap}
use Rattle.std.specs.Prelude.{option_and_then}
use Rattle.fws_net.specs.declared.outcome.Outcome.{Outcome}
use Rattle.fws_net.specs.declared.packet.State.{State}
use Rattle.fws_net.specs.declared.site.Site.{Site}
use Rattle.fws_net.specs.Points.{tops_of}
use Rattle.fws_tree.specs.Plain.{Plain, value, IsReduced}
use Rattle.fws_box.specs.Sides.{IsWithin}
use Rattle.fws_table.specs.declared.ask.Ask.{Ask}
use Rattle.fws_table.specs.QueryText.{asked_leaf, asked_value, query_text, IsQuery}

-- what a value becomes that is relabelled, and then kept within the sides alone
pub changed : (inside : Bool) (verdict : Option Bool) (old : Option Outcome) (relabelled new : Option (Option Outcome))
    → (a : Outcome) × (old ≡ Some a) × (relabelled ≡ Some (asked_leaf verdict a)) → new ≡ cond inside relabelled (Some None)
    → new ≡ Some (cond inside (option_and_then (asked_leaf verdict) old) None)
changed false verdict old relabelled new one e = e
changed true verdict old relabelled new one e = e ∙ one.2 ∙ sym (ap (λ o. Some (option_and_then (asked_leaf verdict) o)) one.1)

-- the text of the reduced changed tree is that of the query
pub text_of_changed : (site : Site) (state : State) (ask : Ask) (t : List ℕ × Plain Outcome) (u : List ℕ × Plain (Option Outcome)) (text : List ℕ)
    → t.0 ≡ tops_of site → u.0 ≡ t.0 → IsReduced u.0 u.1 → ((p : List ℕ) → IsWithin t.0 p → value u.1 p ≡ Some (asked_value ask p (value t.1 p)))
    → text ≡ query_text site state u.1 → IsQuery site state t.1 ask text
text_of_changed site state ask t u text over same reduced values e = record {
  tree = u.1;
  reduced = subst (λ tops. IsReduced tops u.1) (same ∙ over) reduced;
  changed = λ p w. values p (subst (λ tops. IsWithin tops p) (sym over) w);
  spelled = e;
}
