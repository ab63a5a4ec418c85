-- Where trees leave nothing to tell.
use Rattle.std.proofs.Common.{◌≡◌, ℕ, Bool, true, false, ◌&&◌, not, List, refl, sym, ◌∙◌}
use Rattle.std.proofs.lemmas.Bool.{true≢false}
use Rattle.fws_box.specs.Sides.{IsWithin}
use Rattle.fws_net.specs.declared.site.Site.{Site}
use Rattle.fws_net.specs.Points.{tops_of}
use Rattle.fws_tree.specs.Plain.{Plain}
use Rattle.fws_ios_put.specs.Choices.{IsNowhere, is_tcp, truth}

-- wherever the first is true the second is
abbrev pub NoneBeyond : Site → (List ℕ → Bool) → (List ℕ → Bool) → Type 0
NoneBeyond site f g = (x : List ℕ) → IsWithin (tops_of site) x → f x ≡ true → g x ≡ true

abbrev pub NoneLacking : Site → (List ℕ → Bool) → Type 0
NoneLacking site f = (x : List ℕ) → IsWithin (tops_of site) x → f x ≡ true

-- the same of points of TCP
abbrev pub NoneForTcp : Site → (List ℕ → Bool) → Type 0
NoneForTcp site f = (x : List ℕ) → IsWithin (tops_of site) x → is_tcp x ≡ true → f x ≡ false

abbrev pub NoneBeyondForTcp : Site → (List ℕ → Bool) → (List ℕ → Bool) → Type 0
NoneBeyondForTcp site f g = (x : List ℕ) → IsWithin (tops_of site) x → is_tcp x ≡ true → f x ≡ true → g x ≡ true

abbrev pub NoneLackingForTcp : Site → (List ℕ → Bool) → Type 0
NoneLackingForTcp site f = (x : List ℕ) → IsWithin (tops_of site) x → is_tcp x ≡ true → f x ≡ true

pub beyond_by : (a b : Bool) → (a && not b) ≡ false → a ≡ true → b ≡ true
beyond_by true true h e = refl
beyond_by true false h e = absurd (true≢false h)
beyond_by false b h e = absurd (true≢false (sym e))

pub lacking_by : (a : Bool) → not a ≡ false → a ≡ true
lacking_by true h = refl
lacking_by false h = absurd (true≢false h)

tcp_by : (t a : Bool) → (t && a) ≡ false → t ≡ true → a ≡ false
tcp_by true a h tcp = h
tcp_by false a h tcp = absurd (true≢false (sym tcp))

pub none_beyond : (site : Site) (f g : List ℕ → Bool) (t : Plain Bool) → ((x : List ℕ) → IsWithin (tops_of site) x → truth t x ≡ (f x && not (g x))) → IsNowhere site t → NoneBeyond site f g
none_beyond site f g t is none x w = beyond_by (f x) (g x) (sym (is x w) ∙ none x w)

pub none_lacking : (site : Site) (f : List ℕ → Bool) (t : Plain Bool) → ((x : List ℕ) → IsWithin (tops_of site) x → truth t x ≡ not (f x)) → IsNowhere site t → NoneLacking site f
none_lacking site f t is none x w = lacking_by (f x) (sym (is x w) ∙ none x w)

pub none_for_tcp : (site : Site) (f : List ℕ → Bool) (t : Plain Bool) → ((x : List ℕ) → IsWithin (tops_of site) x → truth t x ≡ (is_tcp x && f x)) → IsNowhere site t → NoneForTcp site f
none_for_tcp site f t is none x w = tcp_by (is_tcp x) (f x) (sym (is x w) ∙ none x w)
