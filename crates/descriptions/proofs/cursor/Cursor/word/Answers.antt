use Rattle.std.proofs.Common.{◌≡◌, ℕ, ◌+◌, ◌-◌, ◌≤◌, List, ◌++◌, length, take, drop, Some, None, Option, position, ◌==◌, unwrap_or, sym, ap, ◌∙◌, subst, arith, get_or-take}
use Rattle.std.proofs.lemmas.List.{drop-drop, drop_more, drop_all, take_all, take-append-drop, length-take-le}
use Rattle.descriptions.specs.Layouts.{space, HasNoSpace, IsParted, WordAt}
use Rattle.descriptions.proofs.Firsts.{first, nowhere}
use Rattle.descriptions.proofs.cursor.Cursor.word.Goals as goal

-- so many bytes in front have no space among them, and one stands behind them, or nothing
record Front (bytes : List ℕ) (n : ℕ) : Type 0 where
  within : n ≤ length bytes
  whole : HasNoSpace (take n bytes)
  parted : IsParted (drop n bytes)

-- the bytes in front of the first space are such a front; without a space, all of them are
front : (bytes : List ℕ) (o : Option ℕ) → o ≡ position (λ b. b == space) bytes → Front bytes (unwrap_or o (length bytes))
front bytes (Some n) e =
    let f = first space bytes n e in
    let size : length (take n bytes) ≡ n = length-take-le n bytes (omega (arith, f.within)) in
    record {
      within = omega (arith, f.within);
      whole = λ k h is. f.none_before k (omega arith) (sym (get_or-take n bytes k 0 (omega arith)) ∙ is);
      parted = subst IsParted (sym (drop_more bytes n 0 f.within)) f.here;
    }
front bytes None e = record {
  within = omega arith;
  whole = subst HasNoSpace (sym (take_all (length bytes) bytes (omega arith))) (nowhere space bytes e);
  parted = subst IsParted (sym (drop_all (length bytes) bytes (omega arith))) tt;
}

-- a front of what is left of a text is a word there
word_at : (text : List ℕ) (at n : ℕ) → Front (drop at text) n → WordAt text at (take n (drop at text)) (at + n)
word_at text at n f =
    let behind : drop n (drop at text) ≡ drop (at + n) text = drop-drop n at text in
    record {
      text_is = sym (take-append-drop n (drop at text)) ∙ ap (λ (t : List ℕ). take n (drop at text) ++ t) behind;
      whole = f.whole;
      parted = subst IsParted behind f.parted;
      ends = ap (λ (k : ℕ). at + k) (sym (length-take-le n (drop at text) f.within));
    }

pub returns-clause-word : goal.returns-clause-word
returns-clause-word c =
    let at = c.args.self.at in
    let text = c.args.self.text.now in
    let n = c.unwrap_or-count.result in
    let found : Front (drop at text) n = rw (c.unwrap_or-count.ensures, ← c.rest-rest.ensures) (front c.rest-rest.result.now c.first_of.result c.first_of.ensures) in
    let size : at + n - at ≡ n = omega arith in
    let part : c.upto.result.bytes.now ≡ take n (drop at text) = c.upto.ensures.bytes ∙ ap (λ (k : ℕ). take k (drop at text)) size in
    let end : c.upto.result.byte + length (take n (drop at text)) ≡ at + n = omega (arith, c.upto.ensures.byte, length-take-le n (drop at text) found.within) in
    rw (part, end) (word_at text at n found)
