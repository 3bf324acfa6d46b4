-- The finalization lists: masters with their layers, and sets of objects (RM 7.6.1).
use Rattle.std.specs.Prelude.{◌≡◌, refl, ℕ, ◌+◌, ◌≤◌, List, [], ◌∷◌, ◌++◌, Option, Some, None, Bool, true, false, if◌then◌else◌, slice_get}
use Rattle.std.specs.Ordering.{nat_cmp}
use Rattle.std.specs.Option.{option_map_or}
use Rattle.std.specs.Coded.{Coded, code_by, coded×, coded_ℕ, coded_bool, coded_list}
use Rattle.std.specs.FinMap.{FinMap, code, empty, get, insert, remove}
use Rattle.number_map.specs.Table.{change}
use Rattle.fin_lists.specs.declared.group.Membership.{Membership}
use Rattle.fin_lists.specs.declared.master.Kept.{Kept}
use Rattle.fin_lists.specs.declared.master.Kept.TheVariants.{Declared, Gathered}
use Rattle.fin_lists.specs.declared.lists.Set.{Set}
use Rattle.fin_lists.specs.declared.lists.Layer.{Layer}
use Rattle.fin_lists.specs.declared.lists.Layer.TheVariants.{Object, Sets}
use Rattle.fin_lists.specs.Masters.{Master, master_code, empty_master, with_object, with_collection, without_newest}
use Rattle.fin_lists.specs.Members.{put_member, remove_member, members_in, objects_of}

-- The open masters, the sets that stand, and the members of each group of sets, all by number, and how many masters and sets
-- there have been. The sets of one layer are a group, named by the first of them; any other set is a group of its own.
pub record Lists : Type 0 where
  pub masters : FinMap nat_cmp Master
  pub sets : FinMap nat_cmp Set
  pub groups : FinMap nat_cmp (List Membership)
  pub masters_given : ℕ
  pub sets_given : ℕ

abbrev pub set_code : Coded Set
set_code = code_by (ℕ × Bool) (coded× coded_ℕ coded_bool) (λ s. (s.group, s.started)) (λ t. record { group = t.0; started = t.1 }) (λ _. refl)

abbrev pub membership_code : Coded Membership
membership_code = code_by (ℕ × ℕ) (coded× coded_ℕ coded_ℕ) (λ m. (m.object, m.set)) (λ t. record { object = t.0; set = t.1 }) (λ _. refl)

-- how the logic stores it: as a tuple of its fields
abbrev pub lists_code : Coded Lists
lists_code =
    code_by (FinMap nat_cmp Master × (FinMap nat_cmp Set × (FinMap nat_cmp (List Membership) × (ℕ × ℕ))))
    (coded× (code coded_ℕ master_code) (coded× (code coded_ℕ set_code) (coded× (code coded_ℕ (coded_list membership_code)) (coded× coded_ℕ coded_ℕ))))
    (λ l. (l.masters, (l.sets, (l.groups, (l.masters_given, l.sets_given)))))
    (λ t. record { masters = t.0; sets = t.1.0; groups = t.1.1.0; masters_given = t.1.1.1.0; sets_given = t.1.1.1.1 }) (λ _. refl)

unfoldable pub no_lists : Lists
no_lists = record { masters = empty; sets = empty; groups = empty; masters_given = 0; sets_given = 0 }

-- Masters ------------------------------------------------------------------

-- with a new master, which has the next number and no layer
unfoldable pub with_master : Lists → Lists
with_master l = record l { masters = insert l.masters (l.masters_given + 1) empty_master; masters_given = l.masters_given + 1 }

-- the collections of a master, in the order of their numbers
unfoldable pub collections_of : ℕ → Lists → List ℕ
collections_of m l = option_map_or (λ x. x.collections) (get l.masters m) []

-- without a set, and without the group that it names
unfoldable pub without_set : ℕ → Lists → Lists
without_set set l = record l { sets = remove l.sets set; groups = remove l.groups set }

unfoldable pub without_sets : List ℕ → Lists → Lists
without_sets [] l = l
without_sets (set ∷ sets) l = without_sets sets (without_set set l)

-- without a master and its collections
unfoldable pub without_master : ℕ → Lists → Lists
without_master m l = without_sets (collections_of m l) (record l { masters = remove l.masters m })

-- the layers of a master, from the newest
unfoldable pub layers_of : ℕ → Lists → List Kept
layers_of m l = option_map_or (λ x. x.layers) (get l.masters m) []

-- with an object as the newest layer of a master
unfoldable pub add_object : ℕ → ℕ → Lists → Lists
add_object m object l = record l { masters = change m (with_object object) l.masters }

-- without the newest layer of a master
unfoldable pub drop_newest : ℕ → Lists → Lists
drop_newest m l = record l { masters = change m without_newest l.masters }

unfoldable pub layer_of : Kept → Layer
layer_of (Declared object) = Object object
layer_of (Gathered group) = Sets

-- the newest layer of a master
unfoldable pub newest_layer : ℕ → Lists → Option Layer
newest_layer m l = option_map_or (λ x. Some (layer_of x)) (slice_get (layers_of m l) 0) None

unfoldable pub group_in : Option Kept → ℕ
group_in (Some (Gathered group)) = group
group_in _ = 0

-- the group of the newest layer of a master, 0 where that is none of collections
unfoldable pub newest_group : ℕ → Lists → ℕ
newest_group m l = group_in (slice_get (layers_of m l) 0)

-- Sets ---------------------------------------------------------------------

-- with a new set, which has the next number and no member: in the group of others, or in one of its own
unfoldable pub with_joined : ℕ → Lists → Lists
with_joined group l = record l { sets = insert l.sets (l.sets_given + 1) (record { group = group; started = false }); sets_given = l.sets_given + 1 }

unfoldable pub with_alone : Lists → Lists
with_alone l = let n = l.sets_given + 1 in record (with_joined n l) { groups = insert l.groups n [] }

-- with a new collection of a master, in the group of its newest layer or as its newest layer
unfoldable pub add_collection : Bool → ℕ → Lists → Lists
add_collection joins m l =
    let masters = change m (with_collection joins (l.sets_given + 1)) l.masters in
    if joins then record (with_joined (newest_group m l) l) { masters = masters } else record (with_alone l) { masters = masters }

-- the group of a set, 0 for one that does not stand
unfoldable pub group_of : ℕ → Lists → ℕ
group_of set l = option_map_or (λ x. x.group) (get l.sets set) 0

-- the members of a group
unfoldable pub group_members : ℕ → Lists → List Membership
group_members group l = option_map_or (λ x. x) (get l.groups group) []

-- the objects of the collections of the newest layer of a master, by their numbers
unfoldable pub layer_objects : ℕ → Lists → List ℕ
layer_objects m l = objects_of (group_members (newest_group m l) l)

-- the objects of a set, by their numbers
unfoldable pub set_objects : ℕ → Lists → List ℕ
set_objects set l = objects_of (members_in set (group_members (group_of set l) l))

-- with an object in a set, once
unfoldable pub with_member : ℕ → ℕ → Lists → Lists
with_member set object l = record l { groups = change (group_of set l) (put_member (record { object = object; set = set })) l.groups }

-- without an object of a set
unfoldable pub without_member : ℕ → ℕ → Lists → Lists
without_member set object l = record l { groups = change (group_of set l) (remove_member (record { object = object; set = set })) l.groups }

-- whether the finalization of a set has started
unfoldable pub has_started : ℕ → Lists → Bool
has_started set l = option_map_or (λ x. x.started) (get l.sets set) false

-- with a set whose finalization has started
unfoldable pub with_started : ℕ → Lists → Lists
with_started set l = record l { sets = change set (λ x. record x { started = true }) l.sets }

-- no further master and no further set came to be
abbrev pub KeepsNumbers : Lists → Lists → Type 0
KeepsNumbers old new = (new.masters_given ≡ old.masters_given) × (new.sets_given ≡ old.sets_given)

-- at most one further master did, and no set
abbrev pub MayOpenMaster : Lists → Lists → Type 0
MayOpenMaster old new = (new.masters_given ≤ old.masters_given + 1) × (new.sets_given ≡ old.sets_given)

-- at most one further set did, and no master
abbrev pub MayOpenSet : Lists → Lists → Type 0
MayOpenSet old new = (new.masters_given ≡ old.masters_given) × (new.sets_given ≤ old.sets_given + 1)
