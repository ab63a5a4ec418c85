-- An address more at the end of an interface's.
use Rattle.std.proofs.Common.{◌≡◌, ◌≤◌, ◌<◌, ℕ, zero, suc, List, [], ◌∷◌, ◌++◌, length, slice_index_or, slice_set, refl, ap, arith}
use Rattle.fws_net.specs.declared.site.Address.{Address}
use Rattle.fws_net.specs.declared.site.Iface.{Iface}
use Rattle.fws_net.specs.SiteLines.{address_added}

-- past the last interface nothing is changed
pub past_last : (k : ℕ) (own : Address) (faces : List Iface) → length faces ≤ k → faces ≡ address_added k own faces
past_last k own [] h = refl
past_last zero own (f ∷ fs) h = absurd (omega arith)
past_last (suc k) own (f ∷ fs) h = let le : length fs ≤ k = omega arith in ap (λ gs. f ∷ gs) (past_last k own fs le)

pub at_face : (k : ℕ) (own : Address) (faces : List Iface) (d : Iface) (addrs : List Address) → k < length faces →
    addrs ≡ (slice_index_or faces k d).addrs ++ own ∷ [] →
    slice_set faces k (record (slice_index_or faces k d) { addrs = addrs }) ≡ address_added k own faces
at_face k own [] d addrs h e = absurd (omega arith)
at_face zero own (f ∷ fs) d addrs h e = ap (λ list. record f { addrs = list } ∷ fs) e
at_face (suc k) own (f ∷ fs) d addrs h e = let lt : k < length fs = omega arith in ap (λ gs. f ∷ gs) (at_face k own fs d addrs lt e)
