use Rattle.std.proofs.Common.{◌≡◌, ℕ, ◌+◌, ◌-◌, ◌<◌, min, List, ◌∷◌, ◌++◌, length, get_or, take, drop, Some, None, Err, Option, Result, position, ◌==◌, sym, ap, ◌∙◌, subst, arith, length-take, get_or-take}
use Rattle.std.specs.Option.{ok_or}
use Rattle.std.proofs.lemmas.List.{take-append-drop, drop_more, length-take-le, take_min}
use Rattle.std.proofs.lemmas.Result.{err_from_is_err_and}
use Rattle.descriptions.specs.Lines.{Begins, HasNoFeed, feed}
use Rattle.descriptions.specs.declared.faults.TextFault.{TextFault}
use Rattle.descriptions.proofs.Firsts.{first, nowhere}
use Rattle.descriptions.proofs.cursor.Cursor.cut.Goals as goal

line_and_feed : (bytes : List ℕ) (n : ℕ) → n < length bytes → get_or bytes n 0 ≡ 10 → bytes ≡ take n bytes ++ 10 ∷ drop (n + 1) bytes
line_and_feed bytes n h sign = sym (take-append-drop n bytes) ∙ ap (λ (t : List ℕ). take n bytes ++ t) (drop_more bytes n 0 h ∙ ap (λ (b : ℕ). b ∷ drop (n + 1) bytes) sign)

-- where the first feed of the window stands, the line ends
found : (window : ℕ) (bytes : List ℕ) (n : ℕ) → Some n ≡ position (λ b. b == feed) (take window bytes) → Begins window bytes (take n bytes)
found window bytes n e =
    let f = first feed (take window bytes) n e in
    let size = length-take window bytes in
    let here : get_or bytes n 0 ≡ 10 = sym (get_or-take window bytes n 0 (omega (arith, f.within))) ∙ f.here in
    let short : length (take n bytes) ≡ n = length-take-le n bytes (omega (arith, f.within)) in
    record {
      behind = (drop (n + 1) bytes, line_and_feed bytes n (omega (arith, f.within)) here);
      none_before = λ k h is. f.none_before k (omega arith) (get_or-take window bytes k 0 (omega (arith, f.within)) ∙ (sym (get_or-take n bytes k 0 (omega arith)) ∙ is));
      within = omega (arith, f.within);
    }

-- where the window has no first feed, it has none
missing : (window : ℕ) (bytes : List ℕ) → None ≡ position (λ b. b == feed) (take window bytes) → HasNoFeed window bytes
missing window bytes e k w l f =
    let size = length-take window bytes in
    nowhere feed (take window bytes) e k (omega arith) (get_or-take window bytes k 0 (omega arith) ∙ f)

-- the fault that the search without a find is turned into
turned : (o : Option ℕ) (e t : TextFault) → Err t ≡ ok_or o e → o ≡ None → t ≡ e
turned o e t h n = let is : ◌≡◌ {A = Result ℕ TextFault} (Err t) (Err e) = h ∙ ap (λ (p : Option ℕ). ok_or p e) n in cc

-- the bytes that are searched are the window on the text
searched : (window size at : ℕ) (text rest : List ℕ) → size ≡ min window (length rest) → rest ≡ drop at text → take size rest ≡ take window (drop at text)
searched window size at text rest is e = ap (λ (k : ℕ). take k rest) is ∙ (take_min window rest ∙ ap (take window) e)

pub returns-in_err-feed : goal.returns-in_err-feed
returns-in_err-feed c =
    let at = c.args.self.at in
    let text = c.args.self.text.now in
    let p = err_from_is_err_and c.from_residual.result c.from_residual.ensures.1 in
    let a = c.in_err-feed.ensures in
    let same = searched c.args.window c.min.result at text c.rest-rest.result.now c.min.ensures c.rest-rest.ensures in
    rw (p.1, p.2) (
      turned c.first_of.result _ _ a.value a.ok_part,
      missing c.args.window (drop at text)
          (sym a.ok_part ∙ (c.first_of.ensures ∙ ap (position (λ (x : ℕ). x == feed)) same)),
    )

pub returns : goal.returns
returns c =
    let at = c.args.self.at in
    let text = c.args.self.text.now in
    let n = c.in_ok-feed.feed in
    let same = searched c.args.window c.min.result at text c.rest-rest.result.now c.min.ensures c.rest-rest.ensures in
    let size : at + n - at ≡ n = omega arith in
    let line : c.upto.result.bytes.now ≡ take n (drop at text) = c.upto.ensures.bytes ∙ ap (λ (k : ℕ). take k (drop at text)) size in (
      c.upto.ensures.byte,
      subst (Begins c.args.window (drop at text)) (sym line) (found c.args.window (drop at text) n
          (sym c.in_ok-feed.ensures.ok_part ∙ (c.first_of.ensures ∙ ap (position (λ (x : ℕ). x == feed)) same))),
    )
