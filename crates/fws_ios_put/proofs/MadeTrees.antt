-- Trees of truth values that are made of others.
use Rattle.std.proofs.Common.{◌≡◌, ℕ, Bool, true, false, ◌&&◌, not, cond, nat_eq, Option, Some, List, refl, sym, ap, ◌∙◌, subst}
use Rattle.std.specs.Prelude.{unwrap_or}
use Rattle.fws_box.specs.Sides.{IsWithin, sides_have}
use Rattle.fws_iv.specs.declared.iv.Iv.{Iv}
use Rattle.fws_net.specs.declared.site.Site.{Site}
use Rattle.fws_net.specs.Points.{tops_of}
use Rattle.fws_net.specs.Routes.{is_local}
use Rattle.fws_tree.specs.Plain.{Plain, value}
use Rattle.fws_truth.specs.Truths.{AreJoined}
use Rattle.fws_ios_put_entries.specs.Seen.{IsListed}
use Rattle.fws_ios_put.specs.Choices.{IsAskable, is_stray, is_tcp, truth}

pub truth_is : (t : Plain Bool) (x : List ℕ) (b : Bool) → value t x ≡ Some b → truth t x ≡ b
truth_is t x b is = ap (λ (o : Option Bool). unwrap_or o false) is

-- where a tree gives just what a function of points does, which lists can tell, lists can ask for it
pub askable_by : (site : Site) (t : List ℕ × Plain Bool) (f : List ℕ → Bool) → t.0 ≡ tops_of site → ((x : List ℕ) → IsWithin (tops_of site) x → value t.1 x ≡ Some (f x))
    → IsListed (tops_of site) f → IsAskable site t
askable_by site t f tops is listed = record {
  tops = tops;
  valued = λ x w. is x w ∙ ap Some (sym (truth_is t.1 x (f x) (is x w)));
  listed = λ x y v w same. truth_is t.1 x (f x) (is x v) ∙ listed x y v w same ∙ sym (truth_is t.1 y (f y) (is y w));
}

-- lists can tell values, too
pub values_listed : (site : Site) (t : List ℕ × Plain Bool) → IsAskable site t → IsListed t.0 (value t.1)
values_listed site t askable =
    subst (λ (ts : List ℕ). IsListed ts (value t.1)) (sym askable.tops) (λ x y v w same. askable.valued x v ∙ ap Some (askable.listed x y v w same) ∙ sym (askable.valued y w))

-- over the tops of the site
pub values_told : (site : Site) (t : List ℕ × Plain Bool) → IsAskable site t → IsListed (tops_of site) (value t.1)
values_told site t askable x y v w same = askable.valued x v ∙ ap Some (askable.listed x y v w same) ∙ sym (askable.valued y w)

-- Two trees

-- the pair's function is told by lists where both trees are
pub pair_listed : (site : Site) (gives : Bool → Bool → Bool) (a b : List ℕ × Plain Bool) → IsAskable site a → IsAskable site b → IsListed (tops_of site) (λ x. gives (truth a.1 x) (truth b.1 x))
pair_listed site gives a b askable_a askable_b x y v w same =
    ap (λ (u : Bool). gives u (truth b.1 x)) (askable_a.listed x y v w same) ∙ ap (λ (u : Bool). gives (truth a.1 y) u) (askable_b.listed x y v w same)

-- One tree

pub relabelled_value : (gives : Bool → Bool) (a : List ℕ × Plain Bool) (t : Plain Bool) (tops : List ℕ)
    → ((x : List ℕ) → IsWithin tops x → (l : Bool) × (value a.1 x ≡ Some l) × (value t x ≡ Some (gives l)))
    → (x : List ℕ) → IsWithin tops x → value t x ≡ Some (gives (truth a.1 x))
relabelled_value gives a t tops made x w = let there = made x w in there.2 ∙ ap (λ (u : Bool). Some (gives u)) (sym (truth_is a.1 x there.0 there.1))

-- Kinds of points

pub tcp_listed : (site : Site) → IsListed (tops_of site) is_tcp
tcp_listed site x y v w same = ap (λ (n : ℕ). nat_eq n 6) same.proto

pub strays_listed : (site : Site) → IsListed (tops_of site) (is_stray site)
strays_listed site x y v w same = ap (λ (n : ℕ). not site.forwarding && not (is_local site n)) same.dst

pub both_listed : (tops : List ℕ) (f g : List ℕ → Bool) → IsListed tops f → IsListed tops g → IsListed tops (λ x. f x && g x)
both_listed tops f g a b x y v w same = ap (λ (u : Bool). u && g x) (a x y v w same) ∙ ap (λ (u : Bool). f y && u) (b x y v w same)

-- what is made of two trees
pub made_of_two : (site : Site) (gives : Bool → Bool → Bool) (a b t : List ℕ × Plain Bool) → IsAskable site a → IsAskable site b → t.0 ≡ a.0 → AreJoined gives a.0 a.1 b.1 t.1
    → IsAskable site t × ((x : List ℕ) → IsWithin (tops_of site) x → truth t.1 x ≡ gives (truth a.1 x) (truth b.1 x))
made_of_two site gives a b t askable_a askable_b tops joined =
    let here : AreJoined gives (tops_of site) a.1 b.1 t.1 = subst (λ (ts : List ℕ). AreJoined gives ts a.1 b.1 t.1) askable_a.tops joined in
    let is : (x : List ℕ) → IsWithin (tops_of site) x → value t.1 x ≡ Some (gives (truth a.1 x) (truth b.1 x)) = λ x w.
    let at = here x w in
    at.4 ∙ ap (λ (u : Bool). Some (gives u at.1)) (sym (truth_is a.1 x at.0 at.2)) ∙ ap (λ (v : Bool). Some (gives (truth a.1 x) v)) (sym (truth_is b.1 x at.1 at.3)) in (
      askable_by site t (λ x. gives (truth a.1 x) (truth b.1 x)) (tops ∙ askable_a.tops) is (pair_listed site gives a b askable_a askable_b),
      λ x w. truth_is t.1 x (gives (truth a.1 x) (truth b.1 x)) (is x w),
    )

-- what is made of one
pub made_of_one : (site : Site) (gives : Bool → Bool) (a t : List ℕ × Plain Bool) → IsAskable site a → t.0 ≡ a.0
    → ((x : List ℕ) → IsWithin a.0 x → (l : Bool) × (value a.1 x ≡ Some l) × (value t.1 x ≡ Some (gives l)))
    → IsAskable site t × ((x : List ℕ) → IsWithin (tops_of site) x → truth t.1 x ≡ gives (truth a.1 x))
made_of_one site gives a t askable tops made =
    let here : (x : List ℕ) → IsWithin (tops_of site) x → (l : Bool) × (value a.1 x ≡ Some l) × (value t.1 x ≡ Some (gives l)) =
    subst (λ (ts : List ℕ). (x : List ℕ) → IsWithin ts x → (l : Bool) × (value a.1 x ≡ Some l) × (value t.1 x ≡ Some (gives l))) askable.tops made in
    let is : (x : List ℕ) → IsWithin (tops_of site) x → value t.1 x ≡ Some (gives (truth a.1 x)) = relabelled_value gives a t.1 (tops_of site) here in (
      askable_by site t (λ x. gives (truth a.1 x)) (tops ∙ askable.tops) is (λ x y v w same. ap gives (askable.listed x y v w same)),
      λ x w. truth_is t.1 x (gives (truth a.1 x)) (is x w),
    )

-- what is left of a tree where a test that lists can ask for holds
pub made_part : (site : Site) (test : List ℕ → Bool) (a t : List ℕ × Plain Bool) (sides : List (List Iv)) → IsAskable site a → t.0 ≡ a.0 → IsListed (tops_of site) test
    → ((x : List ℕ) → IsWithin (tops_of site) x → sides_have sides x ≡ test x)
    → ((x : List ℕ) → IsWithin a.0 x → value t.1 x ≡ cond (sides_have sides x) (value a.1 x) (Some false))
    → IsAskable site t × ((x : List ℕ) → IsWithin (tops_of site) x → truth t.1 x ≡ (test x && truth a.1 x))
made_part site test a t sides askable tops listed sided restricted =
    let is : (x : List ℕ) → IsWithin (tops_of site) x → value t.1 x ≡ Some (test x && truth a.1 x) = λ x w.
    restricted x (subst (λ (ts : List ℕ). IsWithin ts x) (sym askable.tops) w)
    ∙ ap (λ (b : Bool). cond b (value a.1 x) (Some false)) (sided x w)
    ∙ ap (λ (o : Option Bool). cond (test x) o (Some false)) (askable.valued x w) ∙ by (test x) (truth a.1 x) in (
      askable_by site t (λ x. test x && truth a.1 x) (tops ∙ askable.tops) is (both_listed (tops_of site) test (truth a.1) listed askable.listed),
      λ x w. truth_is t.1 x (test x && truth a.1 x) (is x w),
    )
  where
    by : (b v : Bool) → cond b (Some v) (Some false) ≡ Some (b && v)
    by true v = refl
    by false v = refl
