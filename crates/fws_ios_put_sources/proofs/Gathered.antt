-- The addresses that are gathered from outcomes.
use Rattle.std.proofs.Common.{◌≡◌, ℕ, ◌+◌, ◌<◌, Some, None, List, length, take, get_or, All, sym, ◌∙◌, ap, subst}
use Rattle.std.proofs.lemmas.List.Elements.{All-contains, All-more, All-weaker, Contains-append_left}
use Rattle.std.proofs.lemmas.Option.{same_Some}
use Rattle.std.specs.Prelude.{Contains}
use Rattle.fws_ios_put_sources.specs.Picking.{Extends, HasSource, HasSources}
use Rattle.fws_net.specs.declared.outcome.End.{End}
use Rattle.fws_net.specs.declared.outcome.Outcome.{Outcome}
use Rattle.fws_net.specs.declared.outcome.Outcome.TheVariants.{Drop, Accept}
use Rattle.fws_net.specs.declared.outcome.Rewrite.{Rewrite}
use Rattle.fws_tree.specs.declared.node.Node.{Node}
use Rattle.fws_tree.specs.Plain.{Plain}
use Rattle.fws_tree.specs.Shared.{IsShared}
use Rattle.fws_ios_put_sources.proofs.Leaves.{among_leaves}

same_rewriting : (v w : Rewrite) → Accept v ≡ Accept w → v ≡ w
same_rewriting v w e = cc

no_end : (e : End) → None ≡ Some e → ⊥
no_end e h = cc

no_rewriting : (w : Rewrite) → Drop ≡ Accept w → ⊥
no_rewriting w h = cc

pub source_there : (addrs : List ℕ) (r : Rewrite) (end : End) → r.src ≡ Some end → Contains addrs end.addr → HasSource addrs (Accept r)
source_there addrs r end is there w e same src =
    let w_is : r ≡ w = same_rewriting r w same in
    let e_is : end ≡ e = same_Some end e (sym is ∙ ap (λ (x : Rewrite). x.src) w_is ∙ src) in
    subst (λ (x : End). Contains addrs x.addr) e_is there

pub source_none : (addrs : List ℕ) (r : Rewrite) → r.src ≡ None → HasSource addrs (Accept r)
source_none addrs r is w e same src = absurd (no_end e (sym is ∙ ap (λ (x : Rewrite). x.src) (same_rewriting r w same) ∙ src))

pub source_dropped : (addrs : List ℕ) → HasSource addrs Drop
source_dropped addrs w e same src = absurd (no_rewriting w same)

still_there : (old new : List ℕ) → Extends old new → (o : Outcome) → HasSource old o → HasSource new o
still_there old new extends o has w e same src =
    subst (λ l. Contains l e.addr) (sym extends.1) (Contains-append_left old extends.0 e.addr (has w e same src))

-- one more outcome
pub sources_more : (old new : List ℕ) (leaves : List Outcome) (i : ℕ) (o : Outcome) → i < length leaves → o ≡ get_or leaves i o
    → All (HasSource old) (take i leaves) → HasSource new o → Extends old new → All (HasSource new) (take (i + 1) leaves)
sources_more old new leaves i o below is before here extends =
    All-more (HasSource new) leaves i o below (All-weaker (HasSource old) (HasSource new) (still_there old new extends) (take i leaves) before) (subst (HasSource new) is here)

-- what all leaves have, all values have
pub sources_told : (addrs : List ℕ) (tops : List ℕ) (t : Plain Outcome) (leaves : List Outcome) (nodes : List Node) → IsShared tops t leaves nodes → All (HasSource addrs) leaves
    → HasSources addrs t
sources_told addrs tops t leaves nodes shared all x o e = All-contains (HasSource addrs) leaves o all (among_leaves tops t leaves nodes shared x o e)
