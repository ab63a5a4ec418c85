-- A passage through the file's chains as a transit through the diagram's.
use Rattle.std.proofs.Common.{◌≡◌, ℕ, Bool, true, false, cond, ◌&&◌, not, List, [], ◌∷◌, refl, ap, ◌∙◌}
use Rattle.std.proofs.lemmas.Bool.{false≢true, and_parts}
use Rattle.std.specs.List.{list_all}
use Rattle.fws_net.specs.declared.condition.Lit.{Lit}
use Rattle.fws_net.specs.declared.condition.Test.{Test}
use Rattle.fws_net.specs.declared.condition.Test.TheVariants.{Via, Outward}
use Rattle.fws_net.specs.declared.transit.Transit.{Transit}
use Rattle.fws_net.specs.declared.view.View.{View}
use Rattle.fws_net.specs.Conditions.{holds, lit_holds, test_holds}
use Rattle.fws_ifcl.specs.declared.diagram.Stage.{Stage}
use Rattle.fws_ifcl.specs.declared.step.ChainEnd.{ChainEnd}
use Rattle.fws_ifcl.specs.declared.step.ChainEnd.TheVariants.{Accepted, Dropped, Through}
use Rattle.fws_ipt.specs.declared.config.IptTable.{IptTable}
use Rattle.fws_ipt.specs.declared.config.IptTable.TheVariants.{Nat}
use Rattle.fws_ipt.specs.declared.hook.Hook.{Hook}
use Rattle.fws_ipt.specs.declared.hook.Hook.TheVariants.{Forward}
use Rattle.fws_ipt.specs.declared.passage.Passage.{Passage}
use Rattle.fws_ipt.specs.declared.passage.ChainEnd.{ChainEnd as IptEnd}
use Rattle.fws_ipt.specs.declared.passage.ChainEnd.TheVariants as ends
use Rattle.fws_ipt.specs.Walk.{is_table, shows_recv, shows_xmit, writes_src_at}
use Rattle.fws_ipt_ifcl.specs.Fitting.{is_sideless}

-- a passage as a transit with a verdict so far
abbrev pub shown : Bool → Passage → Transit
shown accepts m = record { packet = m.packet; tags = m.mark ∷ []; verdict = accepts; wrote = m.wrote }

abbrev pub shown_end : Bool → IptEnd → ChainEnd
shown_end accepts (ends.Accepted m) = Accepted (shown accepts m)
shown_end accepts ends.Dropped = Dropped
shown_end accepts (ends.Through m) = Through (shown accepts m)

-- a stage of a table at a hook
abbrev pub met : ℕ → Bool → IptTable → Hook → Stage
met n accepts table hook = record {
  chain = n;
  shows_recv = shows_recv hook;
  shows_xmit = shows_xmit hook;
  outward = is_table Nat table && writes_src_at hook;
  end = accepts;
}

-- nat has no chain at FORWARD
abbrev pub is_place : IptTable → Hook → Bool
is_place Nat Forward = false
is_place _ _ = true

-- a test that doesn't ask for the side sees no other
test_sideless : (test : Test) (v : View) (o : Bool) → is_sideless test ≡ true → test_holds (record v { outward = o }) test ≡ test_holds v test
test_sideless (Via set) v o is = absurd (false≢true is)
test_sideless Outward v o is = absurd (false≢true is)
test_sideless _ v o is = refl

pub holds_sideless : (test : List Lit) (v : View) (o : Bool) → list_all (λ (lit : Lit). is_sideless lit.test) test ≡ true
    → holds test (record v { outward = o }) ≡ holds test v
holds_sideless [] v o are = refl
holds_sideless (lit ∷ lits) v o are =
    let both = and_parts (is_sideless lit.test) (list_all (λ (lit : Lit). is_sideless lit.test) lits) are in
    ap (λ b. cond lit.not (not b) b && holds lits (record v { outward = o })) (test_sideless lit.test v o both.0)
    ∙ ap (λ b. lit_holds v lit && b) (holds_sideless lits v o both.1)

-- Branches of the two walks

pub branch : (accepts h same : Bool) → h ≡ same → (a b : ChainEnd) (x y : IptEnd) → a ≡ shown_end accepts x → b ≡ shown_end accepts y
    → cond h a b ≡ shown_end accepts (cond same x y)
branch accepts h true is a b x y e f = ap (λ c. cond c a b) is ∙ e
branch accepts h false is a b x y e f = ap (λ c. cond c a b) is ∙ f

-- a condition with literals behind it
pub guard_branch : (accepts w h l same : Bool) → w ≡ (h && l) → h ≡ same → (a b : ChainEnd) (x y : IptEnd)
    → cond l a b ≡ shown_end accepts x → b ≡ shown_end accepts y → cond w a b ≡ shown_end accepts (cond same x y)
guard_branch accepts w h l true is same_as a b x y e f = ap (λ c. cond c a b) (is ∙ ap (λ c. c && l) same_as) ∙ e
guard_branch accepts w h l false is same_as a b x y e f = ap (λ c. cond c a b) (is ∙ ap (λ c. c && l) same_as) ∙ f
