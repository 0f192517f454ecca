-- Two texts that are written one behind the other are one text.
use Rattle.std.proofs.Common.{◌≡◌, ℕ, List, ◌++◌, length, take, drop, sym, ap, ◌∙◌, append_assoc, arith}
use Rattle.std.proofs.lemmas.List.{length-append, length-take-le, length-drop, take_at, drop_at, drop-drop}
use Rattle.descriptions.specs.Writing.{Put}

-- the memory up to the end of the text
front : {before text after : List ℕ} {at end : ℕ} → Put before at text after end → after ≡ (take at before ++ text) ++ drop end before
front {before} {text} {after} {at} {end} p = p.bytes ∙ sym (append_assoc (take at before) text (drop end before))

front_length : {before text after : List ℕ} {at end : ℕ} → Put before at text after end → length (take at before ++ text) ≡ end
front_length {before} {text} {after} {at} {end} p =
    omega (arith, length-append (take at before) text, length-take-le at before (omega (arith, p.ends, p.fits)), p.ends)

-- the memory keeps its length
kept : {before text after : List ℕ} {at end : ℕ} → Put before at text after end → length after ≡ length before
kept {before} {text} {after} {at} {end} p =
    omega (arith, ap length (front p), length-append (take at before ++ text) (drop end before), front_length p, length-drop end before, p.fits)

pub join : {before first middle second after : List ℕ} {at end last : ℕ} → Put before at first middle end → Put middle end second after last → Put before at (first ++ second) after last
join {before} {first} {middle} {second} {after} {at} {end} {last} p q =
    let is = front p in
    let size = front_length p in
    let head : take end middle ≡ take at before ++ first = ap (take end) is ∙ take_at (take at before ++ first) (drop end before) end size in
    let rest : drop end middle ≡ drop end before = ap (drop end) is ∙ drop_at (take at before ++ first) (drop end before) end size in
    let tail : drop last middle ≡ drop last before =
    ap (λ (n : ℕ). drop n middle) q.ends
    ∙ (sym (drop-drop (length second) end middle) ∙ (ap (drop (length second)) rest ∙ (drop-drop (length second) end before ∙ ap (λ (n : ℕ). drop n before) (sym q.ends)))) in
    record {
      ends = omega (arith, p.ends, q.ends, length-append first second);
      fits = omega (arith, q.fits, kept p);
      bytes =
          q.bytes
          ∙ (ap (λ (t : List ℕ). t ++ (second ++ drop last middle)) head
          ∙ (ap (λ (t : List ℕ). (take at before ++ first) ++ (second ++ t)) tail
          ∙ (append_assoc (take at before) first (second ++ drop last before) ∙ ap (λ (t : List ℕ). take at before ++ t) (sym (append_assoc first second (drop last before))))));
    }
