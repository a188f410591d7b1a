-- What a function of the reader gives, against what Decoding.antt of cfn_fault defines.
use Rattle.std.specs.Prelude.{◌≡◌, Option, Some, None}

-- What a function returned, seen by view, is what is defined.
abbrev pub Gives : {X Y : Type 0} → (X → Y) → Option X → Option Y → Type 0
Gives view None due = due ≡ None
Gives view (Some x) due = due ≡ Some (view x)
