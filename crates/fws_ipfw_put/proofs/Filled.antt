-- Instances that are put one behind the other.
use Rattle.std.proofs.Common.{◌≡◌, ℕ, suc, ◌+◌, ◌^◌, ◌<◌, get_or, drop, List, [], ◌∷◌, ◌++◌, length, All, arith, sym, ap, ◌∙◌, subst, append_assoc, drop-cons}
use Rattle.std.proofs.lemmas.List.Elements.{All-push}
use Rattle.fws_net.specs.declared.outcome.End.{End}
use Rattle.fws_ipfw.specs.declared.config.IpfwNat.{IpfwNat}
use Rattle.fws_place.specs.declared.redirect.Redirect.{Redirect as Shown}
use Rattle.fws_ipfw_put.specs.Instances.{destination_nats, redirects_to, source_nats}

abbrev Aliased : List IpfwNat → Type 0
Aliased nats = All (λ (nat : IpfwNat). nat.alias < 2 ^ 32) nats

-- what is left begins with the item at its place
left : (ends : List End) (i : ℕ) (e : End) → i < length ends → e ≡ get_or ends i e → drop i ends ≡ e ∷ drop (i + 1) ends
left ends i e below is =
    let next : suc i ≡ i + 1 = omega arith in
    drop-cons ends i e below ∙ ap (λ x. x ∷ drop (suc i) ends) (sym is) ∙ ap (λ n. e ∷ drop n ends) next

joined : (done new whole left_over rest : List IpfwNat) (nat : IpfwNat) → done ++ left_over ≡ whole → left_over ≡ nat ∷ rest → new ≡ done ++ nat ∷ [] → new ++ rest ≡ whole
joined done new whole left_over rest nat so_far begins more =
    ap (λ l. l ++ rest) more ∙ append_assoc done (nat ∷ []) rest ∙ ap (λ l. done ++ l) (sym begins) ∙ so_far

aliased_more : (done new : List IpfwNat) (nat : IpfwNat) → Aliased done → nat.alias < 2 ^ 32 → new ≡ done ++ nat ∷ [] → Aliased new
aliased_more done new nat all fits more = subst Aliased (sym more) (All-push (λ (x : IpfwNat). x.alias < 2 ^ 32) done nat all fits)

pub source_more : (d : ℕ) (ends : List End) (i : ℕ) (e : End) (done new whole : List IpfwNat) (nat : IpfwNat) → i < length ends → e ≡ get_or ends i e
    → (done ++ source_nats d i (drop i ends) ≡ whole) × Aliased done → nat ≡ record { number = d + i + 1; alias = e.addr; redirects = [] } → e.addr < 2 ^ 32 → new ≡ done ++ nat ∷ []
    → (new ++ source_nats d (i + 1) (drop (i + 1) ends) ≡ whole) × Aliased new
source_more d ends i e done new whole nat below is so_far nat_is fits more = (
  joined done new whole (source_nats d i (drop i ends)) (source_nats d (i + 1) (drop (i + 1) ends)) nat so_far.0
      (ap (source_nats d i) (left ends i e below is) ∙ ap (λ x. x ∷ source_nats d (i + 1) (drop (i + 1) ends)) (sym nat_is)) more,
  aliased_more done new nat so_far.1 (subst (λ (x : IpfwNat). x.alias < 2 ^ 32) (sym nat_is) fits) more,
)

pub destination_more : (rs : List Shown) (ends : List End) (i : ℕ) (e : End) (done new whole : List IpfwNat) (nat : IpfwNat) → i < length ends → e ≡ get_or ends i e
    → (done ++ destination_nats rs i (drop i ends) ≡ whole) × Aliased done → nat ≡ record { number = i + 1; alias = e.addr; redirects = redirects_to e rs } → e.addr < 2 ^ 32
    → new ≡ done ++ nat ∷ []
    → (new ++ destination_nats rs (i + 1) (drop (i + 1) ends) ≡ whole) × Aliased new
destination_more rs ends i e done new whole nat below is so_far nat_is fits more = (
  joined done new whole (destination_nats rs i (drop i ends)) (destination_nats rs (i + 1) (drop (i + 1) ends)) nat so_far.0
      (ap (destination_nats rs i) (left ends i e below is) ∙ ap (λ x. x ∷ destination_nats rs (i + 1) (drop (i + 1) ends)) (sym nat_is)) more,
  aliased_more done new nat so_far.1 (subst (λ (x : IpfwNat). x.alias < 2 ^ 32) (sym nat_is) fits) more,
)
