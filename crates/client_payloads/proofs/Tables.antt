-- The guid of a class is the last of its path.
use Rattle.std.proofs.Common.{◌≡◌, ℕ, ◌-◌, ◌/◌, List, [], ◌∷◌, map, Option, Some, None, refl}
use Rattle.std.specs.Prelude.{slice_get}
use Rattle.protocol_model.specs.Value as Model
use Rattle.class_layout.specs.Tables.{class_of, segment_at}
use Rattle.class_layout.specs.declared.class.Class.{Class}
use Rattle.class_layout.specs.declared.class.Segment.{Segment}
use Rattle.client_payloads.specs.Messages.{last_of}

guids_last : (segments : List Segment) (path : List ℕ) → Model.guid_of (map (segment_at segments) path) ≡ last_of path
guids_last segments [] = refl
guids_last segments (g ∷ []) = guid_is (slice_get segments ((g - 3) / 2))
  where
    guid_is : (o : Option Segment) → (segment_at segments g).guid ≡ g
    guid_is o = by (slice_get segments ((g - 3) / 2)) refl
      where
        by : (o : Option Segment) → slice_get segments ((g - 3) / 2) ≡ o → (segment_at segments g).guid ≡ g
        by None e = rw e refl
        by (Some s) e = rw e refl
guids_last segments (g ∷ h ∷ path) = guids_last segments (h ∷ path)

pub guid_is_last : (segments : List Segment) (c : Class) → Model.class_guid (class_of segments c) ≡ last_of c.path
guid_is_last segments c = guids_last segments c.path
