-- What holds of a text, line by line.
use Rattle.std.proofs.Common.{◌≡◌, ℕ, ◌+◌, Bool, true, false, ◌&&◌, ◌||◌, not, nat_eq, nat_lt, nat_le, Option, Some, None, is_some, option_map, Result, Ok, Err, List, [], ◌∷◌, ◌++◌, codes, bytes_eq, cond, IfOk, IfSome, arith, refl, sym, ap, subst}
use Rattle.std.specs.List.{list_all}
use Rattle.std.specs.Option.{option_map_or}
use Rattle.std.proofs.lemmas.Bool.{false≢true, both_ways, false_from_ne_true, not-true, not_from_false, and_parts, and_from, or_parts, cond_both, lt-ltb, leb-false, eqb-true, eq-eqb}
use Rattle.std.proofs.lemmas.Result.{IfOk-at_ok, IfOk-weaker}
use Rattle.std.proofs.lemmas.Slice.Eq.{bytes_eq-Decides}
use Rattle.fws_num.specs.declared.comments.Comments.TheVariants.{Ipfw}
use Rattle.fws_num.specs.declared.lines.Line.{Line}
use Rattle.fws_num.specs.declared.word.Word.{Word}
use Rattle.fws_num.specs.Lines.{read_of}
use Rattle.fws_num.specs.Words.{is_sound}
use Rattle.fws_net.specs.declared.cause.Cause.{Cause}
use Rattle.fws_net.specs.declared.cause.Cause.TheVariants.{Syntax, LeftOut}
use Rattle.fws_net.specs.declared.site.Site.{Site}
use Rattle.fws_net.specs.Causes.{checked}
use Rattle.fws_net.specs.Reading.{and_then, located, lines_read}
use Rattle.fws_ipfw.specs.declared.config.IpfwAct.{IpfwAct}
use Rattle.fws_ipfw.specs.declared.config.IpfwAct.TheVariants as acts
use Rattle.fws_ipfw.specs.declared.config.IpfwRule.{IpfwRule}
use Rattle.fws_ipfw.specs.declared.config.IpfwNat.{IpfwNat}
use Rattle.fws_ipfw.specs.declared.config.IpfwConfig.{IpfwConfig}
use Rattle.fws_ipfw.specs.declared.draft.Defined.{Defined}
use Rattle.fws_ipfw.specs.declared.draft.IpfwDraft.{IpfwDraft}
use Rattle.fws_ipfw.specs.declared.draft.RuleDraft.{RuleDraft}
use Rattle.fws_ipfw.specs.FileText.{by_number, is_quiet, behind_quiet, behind_program, redirects_of, defined_behind, defined_by, with_defined, defined_from, all_defined, next_number, redirects_named, is_full, with_rule, rule_put, rule_line, rule_number, unnumbered, add_line, are_words, last_rule, begun, listed_line, has_nat, with_nat, config_line, fresh_number, nat_line, alone, flush_line, command_step, command_line, quiet_line, words_step, line_step, fresh_text, ended, spelled}
use Rattle.fws_ipfw.specs.NatText.{nat_of}
use Rattle.fws_ipfw.specs.Options.{action_word, misplaced, misspelled}
use Rattle.fws_ipfw.specs.RuleText.{allows, is_defined, goes_back, rule_checks, rule_drawn, rule_draft}
use Rattle.fws_ipfw.specs.Soundness.{act_fits, is_check, tag_fits, leaves_tags, is_everywhere, rule_fits, nat_fits, are_apart, is_fitting, are_ordered, SpelledFits}
use Rattle.fws_ipfw.specs.Values.{counted}
use Rattle.fws_ipfw.proofs.Counted.{Within, counted_within, below_most, greater_within, next_within}
use Rattle.fws_ipfw.proofs.Drafts.{act_spelled, Drawn, rule_is_drawn}
use Rattle.fws_ipfw.proofs.Instances.{Numbered, nat_is_numbered, numbered_fits}
use Rattle.fws_ipfw.proofs.Lists.{all_weaker, all_longer, any_longer, any_last, any_parted}
use Rattle.fws_ipfw.proofs.Ordered.{are_put_ordered, all_put}
use Rattle.fws_ipfw.proofs.Outcomes.{then_holds, then_known, either_holds, known_holds, judged_holds, passed_holds, located_holds}

-- What holds of rules

-- an act fits, if an instance that some line defines is there
abbrev act_stands : List Defined → ℕ → IpfwAct → Bool
act_stands known number (acts.Skip n) = nat_lt number n && nat_le n 65534
act_stands known number (acts.Nat n) = is_defined known n
act_stands known number _ = true

abbrev rule_stands : List Defined → IpfwRule → Bool
rule_stands known r =
    nat_lt 0 r.number && nat_le r.number 65534 && act_stands known r.number r.act && tag_fits r.tag
    && (not r.keep || allows r.act) && (not (is_check r.act) || (is_everywhere r.cond && leaves_tags r.tag))

six_from : (a b c d e f : Bool) → a ≡ true → b ≡ true → c ≡ true → d ≡ true → e ≡ true → f ≡ true → (a && b && c && d && e && f) ≡ true
six_from true b c d e f p q r s t u = and_from (b && c && d && e) f (and_from (b && c && d) e (and_from (b && c) d (and_from b c q r) s) t) u
six_from false b c d e f p q r s t u = p

third_weaker : (a b c d e f g : Bool) → (c ≡ true → g ≡ true) → (a && b && c && d && e && f) ≡ true → (a && b && g && d && e && f) ≡ true
third_weaker a b c d e f g step h =
    let five = and_parts (a && b && c && d && e) f h in
    let four = and_parts (a && b && c && d) e five.0 in
    let three = and_parts (a && b && c) d four.0 in
    let two = and_parts (a && b) c three.0 in
    and_from (a && b && g && d && e) f (and_from (a && b && g && d) e (and_from (a && b && g) d (and_from (a && b) g two.0 (step two.1)) three.1) four.1) five.1

goes_on : (known : List Defined) (number : ℕ) (act : IpfwAct) → act_spelled known act ≡ true → goes_back number act ≡ false → act_stands known number act ≡ true
goes_on known number (acts.Skip n) h e = and_from (nat_lt number n) (nat_le n 65534) (lt-ltb number n (leb-false n number e)) h
goes_on known number (acts.Nat n) h e = h
goes_on known number _ h e = refl

rule_made : (known : List Defined) (number : ℕ) (d : RuleDraft) → Within 65535 number → nat_eq number 65535 ≡ false → goes_back number d.act ≡ false → Drawn known d
    → rule_stands known (rule_drawn number d) ≡ true
rule_made known number d within other on h =
    six_from (nat_lt 0 number) (nat_le number 65534) (act_stands known number d.act) _ _ _ within.0 (below_most number 65535 65534 refl within.1 other)
    (goes_on known number d.act h.act on) h.tag h.keep h.check

-- What holds of a text so far

record Standing (known : List Defined) (d : IpfwDraft) : Type 0 where
  greatest : nat_le d.greatest 65534 ≡ true
  rules : list_all (rule_stands known) d.rules ≡ true
  fitting : list_all nat_fits d.nats ≡ true
  apart : are_apart d.nats ≡ true

-- an instance that is there stays there
abbrev Stays : IpfwDraft → IpfwDraft → Type 0
Stays d e = (n : ℕ) → has_nat d.nats n ≡ true → has_nat e.nats n ≡ true

-- what a line makes of a text
abbrev Follows : List Defined → IpfwDraft → IpfwDraft → Type 0
Follows known d e = Standing known e × Stays d e

-- and the instance that it defines is there then
abbrev Defines : List Defined → IpfwDraft → Option Defined → IpfwDraft → Type 0
Defines known d o e = Standing known e × Stays d e × IfSome o (λ each. has_nat e.nats each.number ≡ true)

module _ (site : Site) (known : List Defined) where
  -- Rules

  rule_is_put : (number : ℕ) (d : IpfwDraft) (rule : RuleDraft) → Within 65535 number → Standing known d → Drawn known rule → IfOk (rule_put number known d rule) (Follows known d)
  rule_is_put number d rule within h k =
      let redirects = d.redirects + redirects_named known rule.act in
      let checks = rule_checks number (is_full rule.act redirects) rule in
      let P : IpfwRule → Type 0 = λ r. (rule_stands known r ≡ true) × (nat_le r.number 65534 ≡ true) in
      then_known P (Follows known d) (checked checks (rule_drawn number rule)) (λ drawn. Ok (with_rule drawn redirects d))
      (passed_holds P checks (rule_drawn number rule)
      (λ other on. (rule_made known number rule within other on k, below_most number 65535 65534 refl within.1 other)))
      (λ r l. (
        record {
          greatest = greater_within d.greatest r.number 65534 h.greatest l.1;
          rules = all_longer (rule_stands known) d.rules r h.rules l.0;
          fitting = h.fitting;
          apart = h.apart;
        },
        λ n there. there,
      ))

  rule_follows : (number : ℕ) (ws : List Word) (d : IpfwDraft) → Within 65535 number → Standing known d → IfOk (rule_line site known number ws d) (Follows known d)
  rule_follows number ws d within h =
      then_known (Drawn known) (Follows known d) (rule_draft site known ws) (rule_put number known d) (rule_is_drawn site known ws)
      (λ rule k. rule_is_put number d rule within h k)

  unnumbered_follows : (w : Word) (ws : List Word) (d : IpfwDraft) → Standing known d → IfOk (unnumbered site known w ws d) (Follows known d)
  unnumbered_follows w ws d h =
      either_holds (Follows known d) (is_some (action_word w.text)) (rule_line site known (next_number d.greatest) (w ∷ ws) d) (Err (misspelled w.text))
      (λ e. rule_follows (next_number d.greatest) (w ∷ ws) d (next_within d.greatest 100 65534 65535 (omega arith) (omega arith) (omega arith) h.greatest) h) (λ e. tt)

  add_follows : (ws : List Word) (d : IpfwDraft) → Standing known d → IfOk (add_line site known ws d) (Follows known d)
  add_follows [] d h = tt
  add_follows (w ∷ ws) d h =
      judged_holds (Follows known d) w _ (known_holds (Within 65535) (Follows known d) (rule_number w.text) (λ n. rule_line site known n ws d) (unnumbered site known w ws d)
      (counted_within 65535 w.text) (λ n within. rule_follows n ws d within h) (unnumbered_follows w ws d h))

  begins : (d : IpfwDraft) → Standing known d → Follows known d (begun d)
  begins d h = (record { greatest = h.greatest; rules = h.rules; fitting = h.fitting; apart = h.apart }, λ n there. there)

  listed_follows : (n : ℕ) (ws : List Word) (d : IpfwDraft) → Within 65535 n → Standing known d → IfOk (listed_line site known n ws d) (Follows known d)
  listed_follows n ws d within h =
      either_holds (Follows known d) (nat_eq n 65535 && are_words last_rule ws) (Ok (begun d)) (rule_line site known n ws d) (λ e. begins d h)
      (λ e. rule_follows n ws d within h)

  alone_follows : (ws : List Word) (d : IpfwDraft) → Standing known d → IfOk (alone ws d) (Follows known d)
  alone_follows [] d h = (h, λ n there. there)
  alone_follows (w ∷ ws) d h = tt

  flush_follows : (ws : List Word) (d : IpfwDraft) → Standing known d → IfOk (flush_line ws d) (Follows known d)
  flush_follows ws d h = either_holds (Follows known d) d.begun (Err LeftOut) (alone ws d) (λ e. tt) (λ e. alone_follows ws d h)

  -- Instances

  apart_longer : (nats : List IpfwNat) (nat : IpfwNat) → has_nat nats nat.number ≡ false → are_apart nats ≡ true → are_apart (nats ++ nat ∷ []) ≡ true
  apart_longer [] nat new h = refl
  apart_longer (other ∷ nats) nat new h =
      let both = and_parts (not (has_nat nats other.number)) (are_apart nats) h in
      let parts = or_parts (nat_eq other.number nat.number) (has_nat nats nat.number) new in
      and_from (not (has_nat (nats ++ nat ∷ []) other.number)) (are_apart (nats ++ nat ∷ []))
      (not_from_false (has_nat (nats ++ nat ∷ []) other.number)
      (false_from_ne_true (has_nat (nats ++ nat ∷ []) other.number)
      (any_parted (λ each. nat_eq each.number other.number) nats nat ⊥ (both_ways (has_nat nats other.number) (not-true (has_nat nats other.number) both.0))
      (λ same. both_ways (nat_eq other.number nat.number) parts.0 (eq-eqb other.number nat.number (sym (eqb-true nat.number other.number same)))))))
      (apart_longer nats nat parts.1 both.1)

  -- a number that no other instance has
  abbrev IsFresh : List ℕ → IpfwDraft → ℕ → Type 0
  IsFresh text d n = (counted 65535 text ≡ Some n) × (has_nat d.nats n ≡ false) × Within 65535 n

  number_is_fresh : (text : List ℕ) (d : IpfwDraft) → IfOk (fresh_number text d) (IsFresh text d)
  number_is_fresh text d = fresh (counted 65535 text) refl (counted_within 65535 text)
    where
      fresh : (o : Option ℕ) → counted 65535 text ≡ o → IfSome o (Within 65535)
          → IfOk (option_map_or (λ n. cond (has_nat d.nats n) (Err Syntax) (Ok n)) o (Err Syntax)) (IsFresh text d)
      fresh None e within = tt
      fresh (Some n) e within = either_holds (IsFresh text d) (has_nat d.nats n) (Err Syntax) (Ok n) (λ k. tt) (λ k. (e, k, within))

  -- the instance that words define, where their second one is this number
  defined_once : (test : Bool) (o : Option ℕ) (n : ℕ) (redirects : ℕ → ℕ) (P : ℕ → Type 0) → o ≡ Some n → P n
      → IfSome {T = Defined} (cond test (option_map (λ m. record { number = m; redirects = redirects m }) o) None) (λ each. P each.number)
  defined_once test o n redirects P e h =
      subst (λ x. IfSome {T = Defined} (cond test (option_map (λ m. record { number = m; redirects = redirects m }) x) None) (λ each. P each.number)) (sym e)
      (cond_both test (Some (record { number = n; redirects = redirects n })) None (λ x. IfSome x (λ each. P each.number)) (λ k. h) (λ k. tt))

  nat_put : (n : ℕ) (nat : IpfwNat) (d : IpfwDraft) → has_nat d.nats n ≡ false → Within 65535 n → Numbered n nat → Standing known d → Follows known d (with_nat nat d)
  nat_put n nat d new within k h = (
    record {
      greatest = h.greatest;
      rules = h.rules;
      fitting = all_longer nat_fits d.nats nat h.fitting (numbered_fits n nat (and_from (nat_lt 0 n) (nat_le n 65535) within.0 within.1) k);
      apart = apart_longer d.nats nat (subst (λ m. has_nat d.nats m ≡ false) (sym k.number) new) h.apart;
    },
    λ m there. any_longer (λ each. nat_eq each.number m) d.nats (nat ∷ []) there,
  )

  nat_defines : (w : Word) (ws : List Word) (d : IpfwDraft) → Standing known d → IfOk (nat_line site ws d) (Defines known d (defined_behind site (w ∷ ws)))
  nat_defines w [] d h = tt
  nat_defines w (b ∷ []) d h =
      let P = Defines known d None in
      judged_holds P b _ (then_holds P (fresh_number b.text d) (λ n. config_line site n [] d) (λ n. tt))
  nat_defines w (b ∷ c ∷ ws) d h =
      let P = Defines known d (defined_behind site (w ∷ b ∷ c ∷ ws)) in
      judged_holds P b _ (then_known (IsFresh b.text d) P (fresh_number b.text d) (λ n. config_line site n (c ∷ ws) d) (number_is_fresh b.text d)
      (λ n new. judged_holds P c _ (either_holds P (bytes_eq c.text (codes "config")) (and_then (nat_of site n ws) (λ nat. Ok (with_nat nat d))) (Err (misplaced c.text))
      (λ e. then_known (Numbered n) P (nat_of site n ws) (λ nat. Ok (with_nat nat d)) (nat_is_numbered site n ws)
      (λ nat k.
      let put = nat_put n nat d new.1 new.2 k h in (
        put.0,
        put.1,
        defined_once (bytes_eq w.text (codes "nat") && bytes_eq c.text (codes "config") && is_sound w && is_sound b && is_sound c) (counted 65535 b.text) n
            (λ m. redirects_of (nat_of site m ws)) (λ m. has_nat (d.nats ++ nat ∷ []) m ≡ true) new.0
            (any_last (λ each. nat_eq each.number n) d.nats nat (eq-eqb nat.number n k.number)),
      )))
      (λ e. tt))))

  -- Lines

  -- words whose first one isn't `nat` define nothing
  nothing_defined : (w : Word) (ws : List Word) (P : Defined → Type 0) → bytes_eq w.text (codes "nat") ≡ false → IfSome (defined_behind site (w ∷ ws)) P
  nothing_defined w [] P off = tt
  nothing_defined w (b ∷ []) P off = tt
  nothing_defined w (b ∷ c ∷ ws) P off =
      let first = bytes_eq w.text (codes "nat") in
      let third = bytes_eq c.text (codes "config") in
      cond_both (first && third && is_sound w && is_sound b && is_sound c) _ None (λ o. IfSome o P)
      (λ on. absurd (both_ways first off
      (and_parts first third (and_parts (first && third) (is_sound w) (and_parts (first && third && is_sound w) (is_sound b) (and_parts (first && third && is_sound w && is_sound b) (is_sound c) on).0).0).0).0))
      (λ k. tt)

  only_follows : (w : Word) (ws : List Word) (d : IpfwDraft) (r : Result IpfwDraft Cause) → bytes_eq w.text (codes "nat") ≡ false → IfOk r (Follows known d)
      → IfOk r (Defines known d (defined_behind site (w ∷ ws)))
  only_follows w ws d r off h =
      IfOk-weaker r (Follows known d) (Defines known d (defined_behind site (w ∷ ws)))
      (λ e k. (k.0, k.1, nothing_defined w ws (λ each. has_nat e.nats each.number ≡ true) off)) h

  added_apart : (text : List ℕ) → bytes_eq text (codes "add") ≡ true → bytes_eq text (codes "nat") ≡ false
  added_apart text e = ap (λ t. bytes_eq t (codes "nat")) ((bytes_eq-Decides text (codes "add")).0 e)

  command_defines : (w : Word) (ws : List Word) (d : IpfwDraft) → Standing known d
      → IfOk (command_step site known w.text ws d) (Defines known d (defined_behind site (w ∷ ws)))
  command_defines w ws d h =
      let P = Defines known d (defined_behind site (w ∷ ws)) in
      either_holds P (bytes_eq w.text (codes "add")) (add_line site known ws d) _ (λ e. only_follows w ws d (add_line site known ws d) (added_apart w.text e) (add_follows ws d h))
      (λ e. either_holds P (bytes_eq w.text (codes "nat")) (nat_line site ws d) _ (λ k. nat_defines w ws d h)
      (λ k. only_follows w ws d _ k (either_holds (Follows known d) (bytes_eq w.text (codes "flush")) (flush_line ws d) _ (λ l. flush_follows ws d h)
      (λ l. known_holds (Within 65535) (Follows known d) (rule_number w.text) (λ n. listed_line site known n ws d) (Err (misspelled w.text)) (counted_within 65535 w.text)
      (λ n within. listed_follows n ws d within h) tt))))

  command_line_defines : (ws : List Word) (d : IpfwDraft) → Standing known d → IfOk (command_line site known ws d) (Defines known d (defined_behind site ws))
  command_line_defines [] d h = tt
  command_line_defines (w ∷ ws) d h =
      judged_holds (Defines known d (defined_behind site (w ∷ ws))) w (command_step site known w.text ws d) (command_defines w ws d h)

  quiet_chosen : (b : Bool) (w : Word) (ws : List Word) (d : IpfwDraft) → Standing known d
      → IfOk (cond b (command_line site known ws d) (command_step site known w.text ws d)) (Defines known d (defined_behind site (cond b ws (w ∷ ws))))
  quiet_chosen true w ws d h = command_line_defines ws d h
  quiet_chosen false w ws d h = command_defines w ws d h

  quiet_defines : (ws : List Word) (d : IpfwDraft) → Standing known d → IfOk (quiet_line site known ws d) (Defines known d (defined_behind site (behind_quiet ws)))
  quiet_defines [] d h = tt
  quiet_defines (w ∷ ws) d h =
      judged_holds (Defines known d (defined_behind site (cond (is_quiet w.text) ws (w ∷ ws)))) w
      (cond (is_quiet w.text) (command_line site known ws d) (command_step site known w.text ws d)) (quiet_chosen (is_quiet w.text) w ws d h)

  program_chosen : (b : Bool) (w : Word) (ws : List Word) (d : IpfwDraft) → Standing known d
      → IfOk (cond b (quiet_line site known ws d) (command_step site known w.text ws d)) (Defines known d (defined_behind site (cond b (behind_quiet ws) (w ∷ ws))))
  program_chosen true w ws d h = quiet_defines ws d h
  program_chosen false w ws d h = command_defines w ws d h

  words_define : (ws : List Word) (d : IpfwDraft) → Standing known d → IfOk (words_step site known ws d) (Defines known d (defined_behind site (behind_program ws)))
  words_define [] d h = (h, λ n there. there, tt)
  words_define (w ∷ ws) d h =
      judged_holds (Defines known d (defined_behind site (cond (bytes_eq w.text (codes "ipfw")) (behind_quiet ws) (w ∷ ws)))) w
      (cond (bytes_eq w.text (codes "ipfw")) (quiet_line site known ws d) (command_step site known w.text ws d)) (program_chosen (bytes_eq w.text (codes "ipfw")) w ws d h)

  -- All lines

  -- each instance that lines so far define is there
  abbrev AreThere : List Defined → IpfwDraft → Type 0
  AreThere read d = (n : ℕ) → is_defined read n ≡ true → has_nat d.nats n ≡ true

  defined_there : (each : Defined) (read : List Defined) (d : IpfwDraft) → AreThere read d → has_nat d.nats each.number ≡ true → AreThere (with_defined each read) d
  defined_there each read d h there n =
      cond_both (is_defined read each.number) read (read ++ each ∷ []) (λ ds. is_defined ds n ≡ true → has_nat d.nats n ≡ true) (λ e. h n)
      (λ e. any_parted (λ other. nat_eq other.number n) read each (has_nat d.nats n ≡ true) (h n)
      (λ same. subst (λ m. has_nat d.nats m ≡ true) (eqb-true each.number n same) there))

  next_there : (o : Option Defined) (read : List Defined) (d e : IpfwDraft) → AreThere read d → Defines known d o e
      → AreThere (option_map_or (λ each. with_defined each read) o read) e
  next_there None read d e h k = λ n on. k.1 n (h n on)
  next_there (Some each) read d e h k = defined_there each read e (λ n on. k.1 n (h n on)) k.2

  -- what holds of a text behind lines
  abbrev Ends : List Defined → IpfwDraft → Type 0
  Ends read d = Standing known d × AreThere read d

  lines_stand : (read : List Defined) (d : IpfwDraft) (lines : List Line) → Ends read d
      → IfOk (lines_read (line_step site known) d lines) (Ends (defined_from site read lines))
  lines_stand read d [] h = h
  lines_stand read d (line ∷ lines) h =
      let after = option_map_or (λ each. with_defined each read) (defined_by site line) read in
      then_known (Defines known d (defined_by site line)) (Ends (defined_from site after lines)) (located line.number (line_step site known d line))
      (λ next. lines_read (line_step site known) next lines)
      (located_holds (Defines known d (defined_by site line)) line.number (line_step site known d line) (words_define line.words d h.0))
      (λ next k. lines_stand after next lines (k.0, next_there (defined_by site line) read d next h.1 k))

-- The whole text

act_there : (known : List Defined) (nats : List IpfwNat) → ((n : ℕ) → is_defined known n ≡ true → has_nat nats n ≡ true) → (number : ℕ) (act : IpfwAct)
    → act_stands known number act ≡ true → act_fits nats number act ≡ true
act_there known nats there number (acts.Skip n) h = h
act_there known nats there number (acts.Nat n) h = there n h
act_there known nats there number _ h = refl

rule_there : (known : List Defined) (nats : List IpfwNat) → ((n : ℕ) → is_defined known n ≡ true → has_nat nats n ≡ true) → (r : IpfwRule) → rule_stands known r ≡ true
    → rule_fits nats r ≡ true
rule_there known nats there r h =
    third_weaker (nat_lt 0 r.number) (nat_le r.number 65534) (act_stands known r.number r.act) (tag_fits r.tag) (not r.keep || allows r.act)
    (not (is_check r.act) || (is_everywhere r.cond && leaves_tags r.tag)) (act_fits nats r.number r.act) (act_there known nats there r.number r.act) h

-- what holds of a text that was read
abbrev Stood : IpfwConfig → Type 0
Stood c = (is_fitting c ≡ true) × (are_ordered c.rules ≡ true)

spelled_stands : (site : Site) (text : List ℕ) → IfOk (spelled site text) Stood
spelled_stands site text =
    let lines = read_of Ipfw text in
    let known = all_defined site lines.lines in
    then_known (Ends site known known) Stood (lines_read (line_step site known) fresh_text lines.lines) (λ d. located lines.past (ended d))
    (lines_stand site known [] fresh_text lines.lines (record { greatest = refl; rules = refl; fitting = refl; apart = refl }, λ n none. absurd (false≢true none)))
    (λ d h. located_holds Stood lines.past (ended d) (
      and_from (list_all (rule_fits d.nats) (by_number d.rules) && list_all nat_fits d.nats) (are_apart d.nats)
          (and_from (list_all (rule_fits d.nats) (by_number d.rules)) (list_all nat_fits d.nats)
          (all_put (rule_fits d.nats) d.rules (all_weaker (rule_stands known) (rule_fits d.nats) (rule_there known d.nats h.1) d.rules h.0.rules)) h.0.fitting) h.0.apart,
      are_put_ordered d.rules,
    ))

pub spelled_is_fitting : SpelledFits
spelled_is_fitting site text c e = IfOk-at_ok Stood e (spelled_stands site text)
