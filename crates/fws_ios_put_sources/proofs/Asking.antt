-- Lists and translations that are put one by one.
use Rattle.std.proofs.Common.{◌≡◌, ℕ, zero, suc, ◌+◌, ◌<◌, ◌≤◌, Some, List, [], ◌∷◌, ◌++◌, refl, sym, ◌∙◌, ap, subst, arith, length, take, map}
use Rattle.std.proofs.lemmas.List.{take_all}
use Rattle.std.proofs.lemmas.Option.{get_or_from_slice_get, slice_get_within}
use Rattle.std.proofs.Math.Seq.{take-suc}
use Rattle.std.specs.Prelude.{slice_get}
use Rattle.fws_ios.specs.declared.config.IosList.{IosList}
use Rattle.fws_ios_put_sources.specs.declared.translations.Sources.{Sources}
use Rattle.fws_ios_put_sources.specs.Lists.{nat_of, AreAsked, AreListsFrom, IsListAt, PutsList}
use Rattle.fws_net.specs.declared.outcome.Outcome.{Outcome}
use Rattle.fws_net.specs.declared.site.Site.{Site}
use Rattle.fws_tree.specs.Plain.{Plain}

lists_more : (site : Site) (t : Plain Outcome) (addrs : List ℕ) (from : ℕ) (given : List ℕ) (ls : List IosList) (a : ℕ) (l : IosList)
    → AreListsFrom site t addrs from given ls → IsListAt site t addrs (from + length given) a l → AreListsFrom site t addrs from (given ++ a ∷ []) (ls ++ l ∷ [])
lists_more site t addrs from [] [] a l lists at = (subst (λ k. IsListAt site t addrs k a l) (zero_more from) at, tt)
  where
    zero_more : (n : ℕ) → n + 0 ≡ n
    zero_more n = omega arith
lists_more site t addrs from [] (f ∷ ls) a l lists at = absurd lists
lists_more site t addrs from (b ∷ given) [] a l lists at = absurd lists
lists_more site t addrs from (b ∷ given) (f ∷ ls) a l lists at = (
  lists.0,
  lists_more site t addrs (suc from) given ls a l lists.1 (subst (λ k. IsListAt site t addrs k a l) (one_more from (length given)) at),
)
  where
    one_more : (m n : ℕ) → m + suc n ≡ suc m + n
    one_more m n = omega arith

nats_more : (given : List ℕ) (a : ℕ) → map nat_of (given ++ a ∷ []) ≡ map nat_of given ++ nat_of a ∷ []
nats_more [] a = refl
nats_more (b ∷ given) a = ap (λ ns. nat_of b ∷ ns) (nats_more given a)

length_front : (xs : List ℕ) (k : ℕ) → k ≤ length xs → length (take k xs) ≡ k
length_front xs zero le = refl
length_front [] (suc k) le = absurd (omega arith)
length_front (x ∷ xs) (suc k) le = ap suc (length_front xs k (omega (arith, le)))

front_more : (xs : List ℕ) (k a : ℕ) → slice_get xs k ≡ Some a → take (k + 1) xs ≡ take k xs ++ a ∷ []
front_more xs k a e =
    let next : k + 1 ≡ suc k = omega arith in
    ap (λ n. take n xs) next ∙ take-suc xs k a (slice_get_within xs k a e) ∙ ap (λ b. take k xs ++ b ∷ []) (get_or_from_slice_get xs k a a e)

pub one_asked : (site : Site) (t : Plain Outcome) (addrs : List ℕ) (k a : ℕ) (old new : Sources) → slice_get addrs k ≡ Some a
    → AreAsked site t addrs (take k addrs) old → PutsList site t addrs k a old new → AreAsked site t addrs (take (k + 1) addrs) new
one_asked site t addrs k a old new e asked put =
    let low : k < length addrs = slice_get_within addrs k a e in
    let size : k ≡ 0 + length (take k addrs) = (let is = length_front addrs k (omega (arith, low)) in omega (arith, is)) in
    subst (λ given. AreAsked site t addrs given new) (sym (front_more addrs k a e)) (record {
      lists = subst (λ ls. AreListsFrom site t addrs 0 (take k addrs ++ a ∷ []) ls) (sym put.lists)
          (lists_more site t addrs 0 (take k addrs) old.lists a put.list asked.lists (subst (λ n. IsListAt site t addrs n a put.list) size put.is_list));
      nats = put.nats ∙ ap (λ ns. ns ++ nat_of a ∷ []) asked.nats ∙ sym (nats_more (take k addrs) a);
    })

pub all_asked : (site : Site) (t : Plain Outcome) (addrs : List ℕ) (k : ℕ) (s : Sources) → length addrs ≤ k → AreAsked site t addrs (take k addrs) s → AreAsked site t addrs addrs s
all_asked site t addrs k s le asked = subst (λ given. AreAsked site t addrs given s) (take_all k addrs le) asked
