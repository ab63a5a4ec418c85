-- What a translation writes is read word by word.
use Rattle.std.proofs.Common.{◌≡◌, ◌≢◌, ◌⊎◌, ℕ, ◌*◌, ◌/◌, ◌%◌, ◌-◌, ◌^◌, ◌<◌, ◌≤◌, true, false, cond, nat_eq, nat_le, Option, Some, None, ok_or, Ok, Err, List, [], ◌∷◌, ◌++◌, codes, decimal, refl, ap, sym, ◌∙◌, arith, inl, inr, subst}
use Rattle.std.proofs.Math.Nat.{mod-add-div}
use Rattle.std.proofs.lemmas.Bool.{leb-true, eqb-true, eqb-false, ne_eqb, cases_Bool}
use Rattle.std.specs.Option.{option_map_or}
use Rattle.fws_num.specs.declared.prefix.Prefix.{Prefix}
use Rattle.fws_num.specs.declared.word.Word.{Word}
use Rattle.fws_num.specs.Numbers.{dotted, prefix_of}
use Rattle.fws_num.specs.Words.{plain_word}
use Rattle.fws_net.specs.contracts.outcome.End.{the_row}
use Rattle.fws_net.specs.declared.cause.Cause.TheVariants.{Syntax, LeftOut}
use Rattle.fws_net.specs.declared.outcome.End.{End}
use Rattle.fws_net.specs.declared.site.Site.{Site}
use Rattle.fws_net.specs.Ends.{host_end}
use Rattle.fws_net.specs.Reading.{and_then}
use Rattle.fws_net.specs.SiteSpelling.{net_word}
use Rattle.fws_rules.specs.Networks.{net_end, written_len}
use Rattle.fws_pf.specs.declared.config.Way.{Way}
use Rattle.fws_pf.specs.declared.rule_draft.Expects.{Expects}
use Rattle.fws_pf.specs.declared.rule_draft.Expects.TheVariants as expect
use Rattle.fws_pf.specs.declared.rule_draft.RuleDraft.{RuleDraft}
use Rattle.fws_pf.specs.declared.rule_draft.Target.{Target}
use Rattle.fws_pf.specs.declared.rule_draft.Verb.{Verb}
use Rattle.fws_pf.specs.declared.rule_draft.Verb.TheVariants as verbs
use Rattle.fws_pf.specs.declared.text_draft.PfDraft.{PfDraft}
use Rattle.fws_pf.specs.Drawn.{target_end}
use Rattle.fws_pf.specs.Statements.{is_mark}
use Rattle.fws_pf.specs.TargetText.{host_net, is_port_range, name_target, network_target, target_at, target_word, with_port, with_target}
use Rattle.fws_pf.specs.Values.{is_any_mark}
use Rattle.fws_pf_print.specs.PrintedText.{end_port_words, end_words, static_words}
use Rattle.fws_pf_print.proofs.Basics.{if_true, if_false}
use Rattle.fws_pf_print.proofs.Drafts.{draft_at, mark_off, plain_off, Seen, take_bare, Told, whole}
use Rattle.fws_pf_print.proofs.Laws.{Laws}
use Rattle.fws_pf_print.proofs.LineWords.{is_bare}
use Rattle.fws_pf_print.proofs.ValuesRead.{address_bare, net_bare, net_no_quad, net_prefix, number_bare, port_read}

-- Ends

-- where what a translation writes may end
pub data IsLast : Expects → Type 0 where
  targeted : IsLast expect.Targeted
  over : IsLast expect.Ended

host_same : (e : End) → e.len ≡ 32 → host_end e.addr e.port ≡ e
host_same e h = (the_row).coded.inj (host_end e.addr e.port) e (rw h refl)

len_kept : (n : ℕ) → 1 ≤ n → n ≤ 32 → written_len n ≡ n
len_kept n low high = omega arith

clear_kept : (a m : ℕ) → a % m ≡ 0 → a / m * m ≡ a
clear_kept a m h = (let whole = mod-add-div a m in omega (arith, whole, h))

net_same : (e : End) → e.len ≢ 32 → net_end (record { addr = e.addr; len = e.len }) ≡ e
net_same e h =
    let high : e.len ≤ 32 = e.len_high in
    let short : e.len < 32 = omega arith in
    let len : written_len e.len ≡ e.len = len_kept e.len e.len_low e.len_high in
    let port : e.port ≡ None = e.port_on_whole short in
    let addr : e.addr / 2 ^ (32 - e.len) * 2 ^ (32 - e.len) ≡ e.addr = clear_kept e.addr (2 ^ (32 - e.len)) e.clear in
    (the_row).coded.inj (net_end (record { addr = e.addr; len = e.len })) e (rw len (rw addr (rw port refl)))

module _ (laws : Laws) (site : Site) (n : ℕ) (t : PfDraft) (way : Way) (s : Seen) where
  abbrev at : Verb → Told → Expects → RuleDraft
  at verb o next = draft_at verb false way s o next

  abbrev with_it : Target → Told → Told
  with_it target o = record o { target = Some target }

  -- what is read of an end
  pub record IsTarget (verb : Verb) (e : End) (o : Told) (words : List (List ℕ)) : Type 0 where
    pub target : Target
    pub next : Expects
    pub last : IsLast next
    pub read : whole site n t (at verb o expect.Target) words ≡ whole site n t (at verb (with_it target o) next) []
    pub end : target_end target ≡ e
    pub port : target.port ≡ e.port
    pub fits : (target.is_mapped ≡ false) ⊎ ((nat_eq e.len 32 ≡ false) × (target.net.len ≡ e.len))

  -- an address or a network
  word_taken : (verb : Verb) (o : Told) (word : List ℕ) (target : Target) (next : Expects) (rest : List (List ℕ)) → is_bare word ≡ true
      → target_word site word (at verb o expect.Target) ≡ Ok (with_target target next (at verb o expect.Target)) → whole site n t (at verb o expect.Target) (word ∷ rest) ≡ whole site n t (at verb (with_it target o) next) rest
  word_taken verb o word target next rest bare h =
      let w : Word = plain_word n word in
      let d = at verb o expect.Target in
      let off = plain_off site n t word bare in
      take_bare site n t d (at verb (with_it target o) next) word rest bare
      (if_false (is_mark w (codes "(")) _ _ (mark_off w (codes "(") off refl)
      ∙ if_false (is_mark w (codes "{")) _ _ (mark_off w (codes "{") off refl)
      ∙ if_false (is_any_mark w) (Err Syntax) (target_word site word d) off
      ∙ h)

  host_taken : (verb : Verb) (o : Told) (a : ℕ) (rest : List (List ℕ)) → a < 2 ^ 32
      → whole site n t (at verb o expect.Target) (dotted a ∷ rest) ≡ whole site n t (at verb (with_it (target_at (host_net a) false) o) expect.Targeted) rest
  host_taken verb o a rest low =
      let d = at verb o expect.Target in
      word_taken verb o (dotted a) (target_at (host_net a) false) expect.Targeted rest (address_bare laws a)
      (ap (λ q. option_map_or (λ addr. Ok (with_target (target_at (host_net addr) false) expect.Targeted d)) q (option_map_or (λ net. network_target net d) (prefix_of (dotted a)) (name_target site (dotted a) d))) (laws.quads.0 a low))

  net_taken : (verb : Verb) (o : Told) (a m : ℕ) (rest : List (List ℕ)) → a < 2 ^ 32 → 1 ≤ m → m ≤ 32 → a % 2 ^ (32 - m) ≡ 0
      → whole site n t (at verb o expect.Target) (net_word a m ∷ rest) ≡ whole site n t (at verb (with_it (target_at (record { addr = a; len = m }) false) o) expect.Bitmask) rest
  net_taken verb o a m rest low some short clear =
      let d = at verb o expect.Target in
      let word = net_word a m in
      let net : Prefix = record { addr = a; len = m } in
      let other : m ≢ 0 = λ e. omega arith in
      word_taken verb o word (target_at net false) expect.Bitmask rest (net_bare laws a m)
      (ap (λ q. option_map_or (λ addr. Ok (with_target (target_at (host_net addr) false) expect.Targeted d)) q (option_map_or (λ net. network_target net d) (prefix_of word) (name_target site word d))) (net_no_quad laws a m)
      ∙ ap (λ q. option_map_or (λ net. network_target net d) q (name_target site word d)) (net_prefix laws a m low short clear)
      ∙ if_false (nat_eq m 0) (Err LeftOut) (Ok (with_target (target_at net false) expect.Bitmask d)) (ne_eqb m 0 other))

  port_taken : (o : Told) (target : Target) (p : ℕ) → p ≤ 65535 → target.port ≡ None
      → whole site n t (at verbs.Rdr (with_it target o) expect.TargetPort) (decimal p ∷ []) ≡ whole site n t (at verbs.Rdr (with_it (with_port p target) o) expect.Ended) []
  port_taken o target p low none =
      let word = decimal p in
      let d = at verbs.Rdr (with_it target o) expect.TargetPort in
      take_bare site n t d (at verbs.Rdr (with_it (with_port p target) o) expect.Ended) word [] (number_bare laws p)
      (if_false (is_any_mark (plain_word n word)) (Err Syntax) _ (plain_off site n t word (number_bare laws p))
      ∙ ap (λ q. and_then (ok_or q (cond (is_port_range word) LeftOut Syntax)) (λ k. Ok (with_target (with_port k target) expect.Ended d))) (port_read laws p low))

  -- a destination
  pub redirect_read : (e : End) (o : Told) → e.addr < 2 ^ 32 → (nat_eq e.len 32 ≡ true → option_map_or (λ p. nat_le p 65535) e.port true ≡ true) → IsTarget verbs.Rdr e o (end_words e ++ static_words true)
  redirect_read e o low port = elim (cases_Bool (nat_eq e.len 32)) [
    | inl same ↦ subst (λ (ws : List (List ℕ)). IsTarget verbs.Rdr e o (ws ++ static_words true)) (sym (if_true (nat_eq e.len 32) (dotted e.addr ∷ end_port_words e.port) _ same)) (host e.port refl (port same) (eqb-true e.len 32 same))
    | inr other ↦
        (let short = eqb-false e.len 32 other in
        let net : Prefix = record { addr = e.addr; len = e.len } in
        subst (λ (ws : List (List ℕ)). IsTarget verbs.Rdr e o (ws ++ static_words true)) (sym (if_false (nat_eq e.len 32) (dotted e.addr ∷ end_port_words e.port) _ other))
        (record {
          target = record { net = net; is_face = false; is_mapped = true; is_static = false; port = None };
          next = expect.Targeted;
          last = targeted;
          read = net_taken verbs.Rdr o e.addr e.len (codes "bitmask" ∷ []) low e.len_low e.len_high e.clear;
          end = net_same e short;
          port = sym (e.port_on_whole (omega (arith, e.len_high, short)));
          fits = inr (other, refl);
        }))
  ]
    where
      host : (p : Option ℕ) → e.port ≡ p → option_map_or (λ p. nat_le p 65535) e.port true ≡ true → e.len ≡ 32 → IsTarget verbs.Rdr e o ((dotted e.addr ∷ end_port_words e.port) ++ static_words true)
      host None is within len = record {
        target = target_at (host_net e.addr) false;
        next = expect.Targeted;
        last = targeted;
        read = ap (λ (q : Option ℕ). whole site n t (at verbs.Rdr o expect.Target) ((dotted e.addr ∷ end_port_words q) ++ [])) is ∙ host_taken verbs.Rdr o e.addr [] low;
        end = ap (host_end e.addr) (sym is) ∙ host_same e len;
        port = sym is;
        fits = inl refl;
      }
      host (Some p) is within len = record {
        target = with_port p (target_at (host_net e.addr) false);
        next = expect.Ended;
        last = over;
        read = ap (λ (q : Option ℕ). whole site n t (at verbs.Rdr o expect.Target) ((dotted e.addr ∷ end_port_words q) ++ [])) is
            ∙ host_taken verbs.Rdr o e.addr (codes "port" ∷ decimal p ∷ []) low
            ∙ port_taken o (target_at (host_net e.addr) false) p (leb-true p 65535 (ap (λ (q : Option ℕ). option_map_or (λ p. nat_le p 65535) q true) (sym is) ∙ within)) refl;
        end = ap (host_end e.addr) (sym is) ∙ host_same e len;
        port = sym is;
        fits = inl refl;
      }

  -- a source
  pub source_read : (e : End) (o : Told) → e.addr < 2 ^ 32 → (nat_eq e.len 32 ≡ true → e.port ≡ None) → IsTarget verbs.Nat e o (end_words e ++ static_words false)
  source_read e o low port = elim (cases_Bool (nat_eq e.len 32)) [
    | inl same ↦
        (subst (λ (ws : List (List ℕ)). IsTarget verbs.Nat e o (ws ++ static_words false)) (sym (if_true (nat_eq e.len 32) (dotted e.addr ∷ end_port_words e.port) _ same))
        (record {
          target = record { net = host_net e.addr; is_face = false; is_mapped = false; is_static = true; port = None };
          next = expect.Targeted;
          last = targeted;
          read = ap (λ (q : Option ℕ). whole site n t (at verbs.Nat o expect.Target) ((dotted e.addr ∷ end_port_words q) ++ static_words false)) (port same) ∙ host_taken verbs.Nat o e.addr (codes "static-port" ∷ []) low;
          end = ap (host_end e.addr) (sym (port same)) ∙ host_same e (eqb-true e.len 32 same);
          port = sym (port same);
          fits = inl refl;
        }))
    | inr other ↦
        (let short = eqb-false e.len 32 other in
        let net : Prefix = record { addr = e.addr; len = e.len } in
        subst (λ (ws : List (List ℕ)). IsTarget verbs.Nat e o (ws ++ static_words false)) (sym (if_false (nat_eq e.len 32) (dotted e.addr ∷ end_port_words e.port) _ other))
        (record {
          target = record { net = net; is_face = false; is_mapped = true; is_static = true; port = None };
          next = expect.Targeted;
          last = targeted;
          read = net_taken verbs.Nat o e.addr e.len (codes "bitmask" ∷ codes "static-port" ∷ []) low e.len_low e.len_high e.clear;
          end = net_same e short;
          port = sym (e.port_on_whole (omega (arith, e.len_high, short)));
          fits = inr (other, refl);
        }))
  ]
