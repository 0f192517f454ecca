-- What a line is found to be that begins with the name of a kind and has its fields behind that.
use Rattle.std.proofs.Common.{◌≡◌, ℕ, ◌<◌, List, [], ◌∷◌, ◌++◌, length, take, drop, replicate, min, pos, sym, ap, ◌∙◌, subst, append_assoc, arith}
use Rattle.std.proofs.lemmas.List.{append-nil, drop_all, drop_min, take_min, length-append, length-map, length-replicate, length-take}
use Rattle.descriptions.specs.Layouts.{IsParted, rows_text}
use Rattle.descriptions.specs.Reading.{RowsStand, RowsStop}
use Rattle.descriptions.specs.Rows.{PlainRow, plain_row, plain_rows}
use Rattle.descriptions.specs.declared.faults.ValueFault.{ValueFault}
use Rattle.descriptions.specs.declared.layout.Layout.TheVariants.{Fields}
use Rattle.descriptions.specs.declared.row.Row.{Row}
use Rattle.descriptions.specs.declared.value.Value.{Value}
use Rattle.descriptions.specs.declared.value.Value.TheVariants.{Number}
use Rattle.descriptions.proofs.Fits.{as_many}
use Rattle.descriptions.proofs.TextStanding.{text_from_stands}
use Rattle.call_text.specs.KindLines.{HeadAt, GoesOn}
use Rattle.call_text.specs.Kinds.{PlainCallKind, kind_at, head_text, kind_text, plain_kinds, IsOfKind}
use Rattle.call_text.specs.declared.call_kind.CallKind.{CallKind}
use Rattle.call_text.proofs.Heads.{kind_in, kind_is, kind_count}

-- fields that stand behind a part of a line end like that part: at a space, or with the line
rows_parted : (rows : List PlainRow) (vs : List Value) (line : List ℕ) (at next : ℕ) → IsParted (drop at line) → RowsStand Fields rows vs line at next → IsParted (drop next line)
rows_parted [] [] line at next parted stand = subst (λ (b : ℕ). IsParted (drop b line)) stand parted
rows_parted [] (v ∷ vs) line at next parted stand = absurd stand
rows_parted (r ∷ rows) [] line at next parted stand = absurd stand
rows_parted (r ∷ rows) (v ∷ vs) line at next parted stand = rows_parted rows vs line stand.0 next stand.1.1.1.parted stand.2

module _ (kinds : List PlainCallKind) where
  -- the line begins with that of a kind with its values, which ends at this byte
  pub record LineBegins (line : List ℕ) (b i : ℕ) (vs : List Value) : Type 0 where
    pub of_kind : IsOfKind kinds i vs
    pub text_is : line ≡ kind_text kinds i vs ++ drop b line
    pub ends : b ≡ length (kind_text kinds i vs)
    pub parted : IsParted (drop b line)

  -- so does one in which the fields of a kind stand behind its name
  begins : (line : List ℕ) (at b i : ℕ) (vs : List Value) → i < length kinds → HeadAt line (kind_at kinds i) at → RowsStand Fields (kind_at kinds i).fields vs line at b → LineBegins line b i vs
  unfolding kind_text
  begins line at b i vs h head stand =
      let k = kind_at kinds i in
      let t = text_from_stands Fields k.fields vs line at b stand in
      let fields : List ℕ = rows_text Fields k.fields vs in
      record {
        of_kind = (h, t.fit);
        text_is = head.text_is ∙ (ap (λ (rest : List ℕ). head_text k ++ rest) t.text_is ∙ sym (append_assoc (head_text k) fields (drop b line)));
        ends = omega (arith, head.ends, t.ends, length-append (head_text k) fields);
        parted = rows_parted k.fields vs line at b head.parted stand;
      }

  module _ (line : List ℕ) (b i : ℕ) (vs : List Value) (begun : LineBegins line b i vs) where
    -- a line that ends there is the kind's
    pub whole_line : b ≡ length line → line ≡ kind_text kinds i vs
    whole_line end =
        let text : List ℕ = kind_text kinds i vs in
        begun.text_is ∙ (ap (λ (rest : List ℕ). text ++ rest) (drop_all b line (omega arith)) ∙ append-nil text)

    -- one that does not end there goes on
    pub goes_on : (b ≡ length line → ⊥) → GoesOn kinds line b i vs
    goes_on more =
        let text : List ℕ = kind_text kinds i vs in
        record {
          of_kind = begun.of_kind;
          text_is = begun.text_is;
          ends = begun.ends;
          parted = begun.parted;
          more = omega (arith, begun.ends, ap length begun.text_is, length-append text (drop b line), more);
        }

-- what memory for so many values holds before they are read
abbrev blank : (count : ℕ) → List Value
blank count = replicate count (Number (pos 0))

-- from a byte of a line on stand the rows with the first of the values, as many as there are of both
abbrev pub RowsRead : List Row → (count : ℕ) → List Value → (line : List ℕ) (at next : ℕ) → Type 0
RowsRead rows count values line at next = RowsStand Fields (take count (plain_rows rows)) (take (length rows) values) line at next

module _ (rows : List Row) (count : ℕ) (values : List Value) (line : List ℕ) (at next : ℕ) (stand : RowsRead rows count values line at next) where
  -- the rows that are read are as many as there are of both
  count_read : length (take count (plain_rows rows)) ≡ min (length rows) (length values)
  count_read =
      let fields = take count (plain_rows rows) in
      let read = take (length rows) values in
      sym (as_many fields read (text_from_stands Fields fields read line at next stand).fit) ∙ length-take (length rows) values

  values_read : take (length (take count (plain_rows rows))) values ≡ take (length rows) values
  values_read = ap (λ (n : ℕ). take n values) count_read ∙ take_min (length rows) values

  -- behind the values of those rows the memory is as it was
  blank_behind : drop (length rows) values ≡ drop (length rows) (blank count) → drop (length (take count (plain_rows rows))) values ≡ drop (length (take count (plain_rows rows))) (blank count)
  blank_behind same =
      let n = length rows in
      let fields = take count (plain_rows rows) in
      let size : length fields ≡ min n (length (blank count)) = omega (arith, length-take count (plain_rows rows), length-map rows plain_row, length-replicate count (Number (pos 0))) in
      let front : drop (length fields) values ≡ drop n values = ap (λ (k : ℕ). drop k values) count_read ∙ drop_min n values in
      let back : drop (length fields) (blank count) ≡ drop n (blank count) = ap (λ (k : ℕ). drop k (blank count)) size ∙ drop_min n (blank count) in
      front ∙ (same ∙ sym back)

module _ (count : ℕ) (kinds : List CallKind) (i : ℕ) (h : i < length kinds) where
  -- the fields of the kind with this number
  fields_are : (kind_at (plain_kinds count kinds) i).fields ≡ take count (plain_rows (kind_in kinds i).fields.now)
  fields_are = ap (λ (k : PlainCallKind). k.fields) (kind_is count kinds i h)

  -- the fields of a kind stop where its rows in memory do
  pub fields_stop : (line : List ℕ) (at : ℕ) (f : ValueFault)
      → RowsStop Fields (kind_in kinds i).range_number (take count (plain_rows (kind_in kinds i).fields.now)) line at f
      → RowsStop Fields (kind_at (plain_kinds count kinds) i).range_number (kind_at (plain_kinds count kinds) i).fields line at f
  fields_stop line at f stop = subst (λ (k : PlainCallKind). RowsStop Fields k.range_number k.fields line at f) (sym (kind_is count kinds i h)) stop

  module _ (values : List Value) (line : List ℕ) (at next : ℕ) (stand : RowsRead (kind_in kinds i).fields.now count values line at next) where
    -- a line that names the kind begins with that of the kind with the values that are read
    pub line_begins : HeadAt line (kind_at (plain_kinds count kinds) i) at → LineBegins (plain_kinds count kinds) line next i (take (length (kind_at (plain_kinds count kinds) i).fields) values)
    line_begins head =
        let fields = (kind_at (plain_kinds count kinds) i).fields in
        begins (plain_kinds count kinds) line at next i (take (length fields) values) (omega (arith, h, kind_count count kinds)) head
        (rw (fields_are, values_read (kind_in kinds i).fields.now count values line at next stand) stand)

    -- and the memory behind those values is as it was
    pub memory_behind : drop (length (kind_in kinds i).fields.now) values ≡ drop (length (kind_in kinds i).fields.now) (blank count)
        → drop (length (kind_at (plain_kinds count kinds) i).fields) values ≡ drop (length (kind_at (plain_kinds count kinds) i).fields) (blank count)
    memory_behind same = rw fields_are (blank_behind (kind_in kinds i).fields.now count values line at next stand same)
